-- The check step by step (document 01, "Writing"): how an answer at one entry is an answer at an earlier one, and what
-- the steps of writing answer where an entry is missing, refused, or taken.
use Rattle.std.specs.Prelude.{Option, None, Some, Result, Ok, Err}
use Prim.Native.Nat.{ℕ, suc, ◌+◌, ◌<◌, ◌≤◌}
use native.Mathlib.Decide.{dec_lt}
use native.Mathlib.Omega.{arith}
use mathlib.Core.Path.{◌≡◌, refl, sym, ap, ◌∙◌}
use mathlib.Core.Bool.{true}
use mathlib.Core.List.{List}
use Rattle.words.specs.Bits.{Bits, stamp}
use Rattle.types.specs.refusals.Refusal.{number_of, place_of}
use Rattle.types.specs.declared.refusals.refusal.Refusal.{Refusal}
use Rattle.types.specs.declared.refusals.refusal.Refusal.TheVariants.{EntryMisfit, PastLastPlace}
use Rattle.values.specs.declared.writing.limits.Misfit.{Misfit}
use Rattle.values.specs.inside.writing.Effects.{Judged, kept, set, refused, number_in}
use Rattle.values.specs.inside.writing.Passes.{CheckGoes, CheckedFrom, first_kind, left_at}
use Rattle.values.specs.stream.Form.{count_in, stream_ok}
use Rattle.values.specs.stream.Stream.{Token}
use Rattle.values.specs.writing.Effects.{Effect, refuse}
use Rattle.values.specs.writing.Writing.{Outcome, ok, bad, and_then, write_one, opened, elements, members_in}
use Rattle.values.proofs.stream.LeftLaws.{EntryThere, by_kind, kind_there, none_left, there}
use Rattle.values.proofs.writing.OutcomeLaws.{one_is, one_none, opened_none, opened_null, opened_inner}
use Rattle.values.proofs.writing.OutcomeLaws.{opened_other, elements_none, elements_close, elements_full}
use Rattle.values.proofs.writing.OutcomeLaws.{elements_next, members_none, members_close, members_next}
use Rattle.values.proofs.writing.OutcomeLaws.{members_other}

-- ---- answers

-- on to entry r
goes_on : {s : List ℕ} {k : ℕ} (r : ℕ) {f : Bits → Outcome} → k < r → r ≤ count_in s
    → ((z : Bits) → (new : Bits) × (f z ≡ ok (left_at s r) new)) → CheckedFrom s k (Ok r) f
goes_on r a b g = record { says = record { further = a; inside = b; gives = g } }

-- where every image is refused with a refusal's number at its place, the check answers that refusal
pub refuses_at : {s : List ℕ} {k : ℕ} {f : Bits → Outcome} (why : Refusal) → place_of why ≤ count_in s
    → ((z : Bits) → f z ≡ bad (number_of why) (left_at s (place_of why))) → CheckedFrom s k (Err why) f
refuses_at why a g = record { says = record { inside = a; gives = g } }

-- another function that gives the same
checked_by : {s : List ℕ} {k : ℕ} {f g : Bits → Outcome} (r : Result ℕ Refusal) → ((z : Bits) → f z ≡ g z)
    → CheckedFrom s k r g → CheckedFrom s k r f
checked_by (Ok r) e c =
    record {
      says = record {
        further = c.says.further;
        inside = c.says.inside;
        gives = λ z. ((c.says.gives z).0, e z ∙ (c.says.gives z).1);
      };
    }
checked_by (Err why) e c =
    record { says = record { inside = c.says.inside; gives = λ z. e z ∙ c.says.gives z } }

pub checked_as : {s : List ℕ} {k : ℕ} {r : Result ℕ Refusal} {f g : Bits → Outcome} → ((z : Bits) → f z ≡ g z)
    → CheckedFrom s k r g → CheckedFrom s k r f
checked_as {r = r} e c = checked_by r e c

-- ---- what is left: any answer from here on is an answer from the start

-- at entry p the rest is left: what the check answers of it is its answer from entry k on
pub record Onward (s : List ℕ) (k : ℕ) (f : Bits → Outcome) (p : ℕ) (g : Bits → Outcome) : Type 0 where
  pub further : k ≤ p
  pub inside : p ≤ count_in s
  pub onward : (r : Result ℕ Refusal) → CheckedFrom s p r g → CheckedFrom s k r f

-- at the first entry all is left to be checked
pub onward_start : {s : List ℕ} {k : ℕ} {f : Bits → Outcome} → k ≤ count_in s → Onward s k f k f
onward_start l = record { further = omega arith; inside = l; onward = λ r c. c }

-- the first step takes entries up to p
pub onward_from : {s : List ℕ} {k p : ℕ} {f g : Bits → Outcome} → k ≤ p → p ≤ count_in s
    → ((z : Bits) → (new : Bits) × (f z ≡ g new)) → Onward s k f p g
onward_from {s} {k} {p} {f} {g} a b e = record { further = a; inside = b; onward = after }
  where
    after : (r : Result ℕ Refusal) → CheckedFrom s p r g → CheckedFrom s k r f
    after (Ok r) c =
        record {
          says = record {
            further = let w = c.says.further in omega arith;
            inside = c.says.inside;
            gives = λ z. ((c.says.gives (e z).0).0, (e z).1 ∙ (c.says.gives (e z).0).1);
          };
        }
    after (Err why) c =
        record { says = record { inside = c.says.inside; gives = λ z. (e z).1 ∙ c.says.gives (e z).0 } }

-- what is left of what is left is left of the whole
pub onward_on : {s : List ℕ} {k p q : ℕ} {f g h : Bits → Outcome} → Onward s k f p g → Onward s p g q h
    → Onward s k f q h
onward_on a b =
    record {
      further = let u = a.further in let v = b.further in omega arith;
      inside = b.inside;
      onward = λ r c. a.onward r (b.onward r c);
    }

-- one step that was taken, and what comes after it
pub onward_then : {s : List ℕ} {p r : ℕ} {g one : Bits → Outcome} (next : List Token → Bits → Outcome)
    → ((z : Bits) → g z ≡ and_then (one z) next) → CheckGoes s p r one → Onward s p g r (next (left_at s r))
onward_then {s} {p} {r} {g} {one} next e w =
    onward_from (let l = w.further in omega arith) w.inside
    (λ z. ((w.gives z).0, e z ∙ ap (λ o. and_then o next) (w.gives z).1))

-- where the first of two steps is refused, the answer of both is its refusal
pub refused_then : {s : List ℕ} {p : ℕ} {why : Refusal} {g one : Bits → Outcome}
    (next : List Token → Bits → Outcome) → ((z : Bits) → g z ≡ and_then (one z) next)
    → CheckedFrom s p (Err why) one → CheckedFrom s p (Err why) g
refused_then next e c =
    record {
      says = record {
        inside = c.says.inside;
        gives = λ z. e z ∙ ap (λ o. and_then o next) (c.says.gives z);
      };
    }

-- ---- one entry

-- what is said not to be taken is refused with that number
pub judged_refused : {e : Effect} {r : Option Misfit} {why : Misfit} → Judged e r → r ≡ Some why
    → e ≡ refuse (number_in why)
judged_refused (kept n e) o = absurd (let z : ⊥ = cc in z)
judged_refused (set n b e) o = absurd (let z : ⊥ = cc in z)
judged_refused (refused m n e) o = cc

module _ {s : List ℕ} {k : ℕ} (form : stream_ok s ≡ true) where
  -- no entry is left: the check answers 18 at the entry count
  pub one_missing : (takes : Token → Effect) (w p : ℕ) → k ≡ count_in s
      → CheckedFrom s k (Err (EntryMisfit k)) (write_one takes w p (left_at s k))
  one_missing takes w p e =
      let none = none_left s k (omega arith) in
      refuses_at (EntryMisfit k) (omega arith) (λ z. one_none takes w p z none ∙ ap (bad 18) (sym none))

  -- an entry that is taken: the check goes on to the next one
  pub one_judged : (takes : Token → Effect) (w p : ℕ) (t : EntryThere s k) → Judged (takes t.token) None
      → CheckedFrom s k (Ok (k + 1)) (write_one takes w p (left_at s k))
  one_judged takes w p t (kept n e) =
      goes_on (k + 1) (omega arith) (let l = t.inside in omega arith)
      (λ z. (z, one_is takes w p t.token (left_at s (k + 1)) z t.left ∙ rw e refl))
  one_judged takes w p t (set n b e) =
      goes_on (k + 1) (omega arith) (let l = t.inside in omega arith)
      (λ z. (stamp p w b z, one_is takes w p t.token (left_at s (k + 1)) z t.left ∙ rw e refl))
  one_judged takes w p t (refused m n e) = absurd (let z : ⊥ = cc in z)

  -- an entry that is refused: the check answers its refusal
  pub one_refused : {why : Refusal} (takes : Token → Effect) (w p : ℕ) (t : EntryThere s k)
      → takes t.token ≡ refuse (number_of why) → place_of why ≡ k
      → CheckedFrom s k (Err why) (write_one takes w p (left_at s k))
  one_refused {why} takes w p t e a =
      refuses_at why (rw a (let l = t.inside in omega arith))
      (λ z. one_is takes w p t.token (left_at s (k + 1)) z t.left
      ∙ rw (e, a) (ap (bad (number_of why)) (sym t.left)))

  -- ---- a null, or an opening

  -- a null: the check goes on to the next entry
  pub opened_keeps : (start : ℕ) (inner : List Token → Bits → Outcome) → first_kind (left_at s k) ≡ 0
      → CheckedFrom s k (Ok (k + 1)) (opened start inner (left_at s k))
  opened_keeps start inner e =
      let t = by_kind s k form (λ h. let z : ⊥ = omega arith in z) in
      let kind = kind_there t in
      goes_on (k + 1) (omega arith) (let l = t.inside in omega arith)
      (λ z. (z, opened_null start inner t.token (left_at s (k + 1)) z t.left (sym kind ∙ e)))

  -- the opening: what the check answers of the inside is its answer
  pub opened_goes : {r : Result ℕ Refusal} (start : ℕ) (inner : List Token → Bits → Outcome) → 1 ≤ start → start < 12
      → first_kind (left_at s k) ≡ start
      → CheckedFrom s (k + 1) r (inner (left_at s (k + 1))) → CheckedFrom s k r (opened start inner (left_at s k))
  opened_goes {r} start inner a b e c =
      let t = by_kind s k form (λ h. let z : ⊥ = omega arith in z) in
      let kind = kind_there t in
      (onward_from {s = s} {k = k} {p = k + 1} {f = opened start inner (left_at s k)} {g = inner (left_at s (k + 1))}
      (omega arith)
      (let l = t.inside in omega arith)
      (λ z. (
        z,
        opened_inner start inner t.token (left_at s (k + 1)) z t.left (λ h. let z : ⊥ = omega arith in z)
            (sym kind ∙ e),
      ))
      ).onward r c

  -- neither null nor the opening, or no entry left: the check answers 18 here
  pub opened_refuses : (start : ℕ) (inner : List Token → Bits → Outcome) → k ≤ count_in s
      → (first_kind (left_at s k) ≡ 0 → ⊥) → (first_kind (left_at s k) ≡ start → ⊥)
      → CheckedFrom s k (Err (EntryMisfit k)) (opened start inner (left_at s k))
  opened_refuses start inner l a b = go (dec_lt k (count_in s))
    where
      go : Dec (k < count_in s) → CheckedFrom s k (Err (EntryMisfit k)) (opened start inner (left_at s k))
      go (yes h) =
          let t = there s k form h in
          let kind = kind_there t in
          refuses_at (EntryMisfit k) l
          (λ z. opened_other start inner t.token (left_at s (k + 1)) z t.left (λ q. a (kind ∙ q))
          (λ q. b (kind ∙ q)))
      go (no h) =
          let none = none_left s k (omega arith) in
          refuses_at (EntryMisfit k) l (λ z. opened_none start inner z none ∙ ap (bad 18) (sym none))

  -- ---- elements

  module _ (one : ℕ → List Token → Bits → Outcome) (w : ℕ) where
    -- elements, and no entry is left: the check answers 18 at the entry count
    pub elements_missing : (n p : ℕ) → k ≡ count_in s
        → CheckedFrom s k (Err (EntryMisfit k)) (elements n one w p (left_at s k))
    elements_missing n p e =
        let none = none_left s k (omega arith) in
        refuses_at (EntryMisfit k) (omega arith) (λ z. elements_none one w n p z none ∙ ap (bad 18) (sym none))

    -- the array's close: the check goes on to the next entry
    pub elements_closes : (n p : ℕ) → first_kind (left_at s k) ≡ 11
        → CheckedFrom s k (Ok (k + 1)) (elements n one w p (left_at s k))
    elements_closes n p e =
        let t = by_kind s k form (λ h. let z : ⊥ = omega arith in z) in
        let kind = kind_there t in
        goes_on (k + 1) (omega arith) (let l = t.inside in omega arith)
        (λ z. (z, elements_close one w n p t.token (left_at s (k + 1)) z t.left (sym kind ∙ e)))

    -- past the last place an entry that is no close: the check answers 20 here
    pub elements_refuse : (p : ℕ) (t : EntryThere s k) → (first_kind (left_at s k) ≡ 11 → ⊥)
        → CheckedFrom s k (Err (PastLastPlace k)) (elements 0 one w p (left_at s k))
    elements_refuse p t a =
        let kind = kind_there t in
        refuses_at (PastLastPlace k) (let l = t.inside in omega arith)
        (λ z. elements_full one w p t.token (left_at s (k + 1)) z t.left (λ q. a (kind ∙ q)))

    -- an entry that is no close is an element's, and the other elements come after it
    pub elements_go : (n p : ℕ) (t : EntryThere s k) → (first_kind (left_at s k) ≡ 11 → ⊥) → (z : Bits)
        → elements (suc n) one w p (left_at s k) z ≡ and_then (one p (left_at s k) z) (elements n one w (p + w))
    elements_go n p t a z =
        let kind = kind_there t in
        elements_next one w n p t.token (left_at s (k + 1)) z t.left (λ q. a (kind ∙ q))

  -- ---- members

  module _ (one : Token → List Token → Bits → Outcome) where
    -- members, and no entry is left: the check answers 18 at the entry count
    pub members_missing : (most : ℕ) → k ≡ count_in s
        → CheckedFrom s k (Err (EntryMisfit k)) (members_in most one (left_at s k))
    members_missing most e =
        let none = none_left s k (omega arith) in
        refuses_at (EntryMisfit k) (omega arith) (λ z. members_none one most z none ∙ ap (bad 18) (sym none))

    -- the structure's close: the check goes on to the next entry
    pub members_closes : (most : ℕ) → first_kind (left_at s k) ≡ 9
        → CheckedFrom s k (Ok (k + 1)) (members_in (suc most) one (left_at s k))
    members_closes most e =
        let t = by_kind s k form (λ h. let z : ⊥ = omega arith in z) in
        let kind = kind_there t in
        goes_on (k + 1) (omega arith) (let l = t.inside in omega arith)
        (λ z. (z, members_close one most t.token (left_at s (k + 1)) z t.left (sym kind ∙ e)))

    -- neither the close nor a member number: the check answers 18 here
    pub members_refuse : (most : ℕ) (t : EntryThere s k) → (first_kind (left_at s k) ≡ 9 → ⊥)
        → (first_kind (left_at s k) ≡ 7 → ⊥)
        → CheckedFrom s k (Err (EntryMisfit k)) (members_in (suc most) one (left_at s k))
    members_refuse most t a b =
        let kind = kind_there t in
        refuses_at (EntryMisfit k) (let l = t.inside in omega arith)
        (λ z. members_other one most t.token (left_at s (k + 1)) z t.left (λ q. a (kind ∙ q)) (λ q. b (kind ∙ q)))

    -- an entry of kind 7 has the member that it names written, and then the other members
    pub members_go : (most : ℕ) (t : EntryThere s k) → first_kind (left_at s k) ≡ 7 → (z : Bits)
        → members_in (suc most) one (left_at s k) z
        ≡ and_then (one t.token (left_at s (k + 1)) z) (members_in most one)
    members_go most t a z =
        members_next one most t.token (left_at s (k + 1)) z t.left (sym (kind_there t) ∙ a)
