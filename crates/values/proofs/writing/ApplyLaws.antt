-- Setting step by step (document 01, "Writing"), where the check accepted: what was set after one entry is set after an
-- earlier one, and an accepted step has its entry.
use Prim.Native.Nat.{ℕ, suc, ◌+◌, ◌<◌, ◌≤◌}
use native.Mathlib.Decide.{dec_lt}
use native.Mathlib.Omega.{arith}
use mathlib.Core.Path.{◌≡◌, refl, sym, ap, ◌∙◌}
use mathlib.Core.Bool.{true, true≢false}
use mathlib.Core.List.{List, []}
use lib.ListN.{length}
use Rattle.words.specs.Bits.{Bits, flat}
use Rattle.values.specs.inside.writing.Passes.{Applied, accepted, first_kind, left_at}
use Rattle.values.specs.stream.Form.{count_in, stream_ok}
use Rattle.values.specs.stream.Stream.{Token, kind_of}
use Rattle.values.specs.writing.Effects.{Effect}
use Rattle.values.specs.writing.Writing.{Outcome, ok, bad, and_then, write_one, opened, elements, members_in}
use Rattle.values.proofs.stream.LeftLaws.{EntryThere, kind_there, none_left, there}
use Rattle.values.proofs.writing.OutcomeLaws.{one_none, opened_none, opened_null, opened_inner, opened_other}
use Rattle.values.proofs.writing.OutcomeLaws.{elements_none, elements_close, elements_full, members_none}
use Rattle.values.proofs.writing.OutcomeLaws.{members_close, members_other}

-- ---- what is accepted

-- what is refused is not accepted
pub not_accepted : {A : Type 0} {o : Outcome} {number : ℕ} {ts : List Token} → o ≡ bad number ts → accepted o ≡ true → A
not_accepted e h = absurd (true≢false (sym h ∙ ap accepted e))

-- an outcome that is the same as an accepted one is accepted
pub accepted_as : {o q : Outcome} → o ≡ q → accepted o ≡ true → accepted q ≡ true
accepted_as e h = sym (ap accepted e) ∙ h

-- where a step and what comes after it are accepted, the step is
pub accepted_first : (o : Outcome) (next : List Token → Bits → Outcome) → accepted (and_then o next) ≡ true
    → accepted o ≡ true
accepted_first (ok ts z) next h = refl
accepted_first (bad number ts) next h = h

-- ---- what was set

-- an entry that keeps what stands
pub applied_keeps : {s : List ℕ} {k : ℕ} {image : List ℕ} {f : Bits → Outcome} → k < count_in s
    → f (flat image) ≡ ok (left_at s (k + 1)) (flat image) → Applied s k (k + 1) image image f
applied_keeps l e = record { further = omega arith; inside = omega arith; long = refl; gives = e }

-- where one entry is taken and the image is as it sets it, that write is applied
pub applied_one : {s : List ℕ} {k : ℕ} {image new : List ℕ} {f : Bits → Outcome} {z : Bits} → k < count_in s
    → length new ≡ length image → f (flat image) ≡ ok (left_at s (k + 1)) z → flat new ≡ z
    → Applied s k (k + 1) image new f
applied_one {s} {k} l long e b =
    record { further = omega arith; inside = omega arith; long = long; gives = e ∙ ap (ok (left_at s (k + 1))) (sym b) }

-- what was set is set by any step that gives the same on this image
pub applied_as : {s : List ℕ} {k r : ℕ} {image new : List ℕ} {f g : Bits → Outcome} → f (flat image) ≡ g (flat image)
    → Applied s k r image new g → Applied s k r image new f
applied_as e a = record { further = a.further; inside = a.inside; long = a.long; gives = e ∙ a.gives }

-- ---- what is left: whatever is set from here on is set from the start

-- at entry p, over the image as it stands, the rest is accepted, and what it sets is set from the start
pub record Setting (s : List ℕ) (k : ℕ) (image : List ℕ) (f : Bits → Outcome) (p : ℕ) (now : List ℕ)
    (g : Bits → Outcome) : Type 0 where
  pub further : k ≤ p
  pub long : length now ≡ length image
  pub taken : accepted (g (flat now)) ≡ true
  pub onward : (r : ℕ) (new : List ℕ) → Applied s p r now new g → Applied s k r image new f

-- at the first entry all is left to be set
pub setting_start : {s : List ℕ} {k : ℕ} {image : List ℕ} {f : Bits → Outcome} → accepted (f (flat image)) ≡ true
    → Setting s k image f k image f
setting_start h = record { further = omega arith; long = refl; taken = h; onward = λ r new a. a }

-- the first step leaves another image, and takes entries up to p
pub setting_from : {s : List ℕ} {k p : ℕ} {image now : List ℕ} {f g : Bits → Outcome} → k ≤ p
    → length now ≡ length image → f (flat image) ≡ g (flat now) → accepted (f (flat image)) ≡ true
    → Setting s k image f p now g
setting_from l long e h =
    record {
      further = l;
      long = long;
      taken = accepted_as e h;
      onward = λ r new a. record {
        further = let w = a.further in omega arith;
        inside = a.inside;
        long = a.long ∙ long;
        gives = e ∙ a.gives;
      };
    }

-- what is left of what is left is left of the whole
pub setting_on : {s : List ℕ} {k p q : ℕ} {image now later : List ℕ} {f g h : Bits → Outcome}
    → Setting s k image f p now g → Setting s p now g q later h → Setting s k image f q later h
setting_on a b =
    record {
      further = let u = a.further in let v = b.further in omega arith;
      long = b.long ∙ a.long;
      taken = b.taken;
      onward = λ r new c. a.onward r new (b.onward r new c);
    }

-- one step that was set, and what comes after it
pub setting_then : {s : List ℕ} {p r : ℕ} {now new : List ℕ} {g one : Bits → Outcome}
    (next : List Token → Bits → Outcome) → g (flat now) ≡ and_then (one (flat now)) next
    → accepted (g (flat now)) ≡ true → Applied s p r now new one → Setting s p now g r new (next (left_at s r))
setting_then next e h a =
    setting_from (let l = a.further in omega arith) a.long (e ∙ ap (λ o. and_then o next) a.gives) h

-- ---- an accepted step has its entry

module _ {s : List ℕ} {k : ℕ} (form : stream_ok s ≡ true) where
  there_unless : {o : Outcome} → ((left_at s k ≡ []) → o ≡ bad 18 []) → accepted o ≡ true → EntryThere s k
  there_unless none h = go (dec_lt k (count_in s))
    where
      go : Dec (k < count_in s) → EntryThere s k
      go (yes l) = there s k form l
      go (no l) = not_accepted (none (none_left s k (omega arith))) h

  -- an accepted write of one entry has its entry
  pub one_there : (takes : Token → Effect) (w p : ℕ) (z : Bits) → accepted (write_one takes w p (left_at s k) z) ≡ true
      → EntryThere s k
  one_there takes w p z h = there_unless (λ e. one_none takes w p z e) h

  -- an accepted null or opening has its entry
  pub opened_there : (start : ℕ) (inner : List Token → Bits → Outcome) (z : Bits)
      → accepted (opened start inner (left_at s k) z) ≡ true → EntryThere s k
  opened_there start inner z h = there_unless (λ e. opened_none start inner z e) h

  -- accepted elements have their next entry
  pub elements_there : (n : ℕ) (one : ℕ → List Token → Bits → Outcome) (w p : ℕ) (z : Bits)
      → accepted (elements n one w p (left_at s k) z) ≡ true → EntryThere s k
  elements_there n one w p z h = there_unless (λ e. elements_none one w n p z e) h

  -- accepted members have their next entry
  pub members_there : (most : ℕ) (one : Token → List Token → Bits → Outcome) (z : Bits)
      → accepted (members_in most one (left_at s k) z) ≡ true → EntryThere s k
  members_there most one z h = there_unless (λ e. members_none one most z e) h

  -- ---- a null, or an opening

  module _ (start : ℕ) (inner : List Token → Bits → Outcome) (t : EntryThere s k) where
    -- null keeps what stands
    pub opened_kept : {image : List ℕ} → first_kind (left_at s k) ≡ 0
        → Applied s k (k + 1) image image (opened start inner (left_at s k))
    opened_kept {image} e =
        applied_keeps t.inside
        (opened_null start inner t.token (left_at s (k + 1)) (flat image) t.left (sym (kind_there t) ∙ e))

    -- and where it is no null, the inside is accepted
    pub opened_set : {image : List ℕ} → (first_kind (left_at s k) ≡ 0 → ⊥)
        → accepted (opened start inner (left_at s k) (flat image)) ≡ true
        → Setting s k image (opened start inner (left_at s k)) (k + 1) image (inner (left_at s (k + 1)))
    opened_set {image} n h = go (native.Mathlib.Decide.ℕ_discrete (kind_of t.token) start)
      where
        zero_not : kind_of t.token ≡ 0 → ⊥
        zero_not e = n (kind_there t ∙ e)

        go : Dec (kind_of t.token ≡ start)
            → Setting s k image (opened start inner (left_at s k)) (k + 1) image (inner (left_at s (k + 1)))
        go (yes e) =
            setting_from (omega arith) refl
            (opened_inner start inner t.token (left_at s (k + 1)) (flat image) t.left zero_not e) h
        go (no e) =
            not_accepted (opened_other start inner t.token (left_at s (k + 1)) (flat image) t.left zero_not e) h

  -- ---- elements

  module _ (one : ℕ → List Token → Bits → Outcome) (w : ℕ) (t : EntryThere s k) where
    -- at the array's close the elements end, and the image stands
    pub elements_closed : (n p : ℕ) {image : List ℕ} → first_kind (left_at s k) ≡ 11
        → Applied s k (k + 1) image image (elements n one w p (left_at s k))
    elements_closed n p {image} e =
        applied_keeps t.inside
        (elements_close one w n p t.token (left_at s (k + 1)) (flat image) t.left (sym (kind_there t) ∙ e))

    -- past the last place there is nothing but the close
    pub elements_end : (p : ℕ) (image : List ℕ) → accepted (elements 0 one w p (left_at s k) (flat image)) ≡ true
        → first_kind (left_at s k) ≡ 11
    elements_end p image h = go (native.Mathlib.Decide.ℕ_discrete (kind_of t.token) 11)
      where
        go : Dec (kind_of t.token ≡ 11) → first_kind (left_at s k) ≡ 11
        go (yes e) = kind_there t ∙ e
        go (no e) = not_accepted (elements_full one w p t.token (left_at s (k + 1)) (flat image) t.left e) h

  -- ---- members

  module _ (one : Token → List Token → Bits → Outcome) (t : EntryThere s k) where
    -- at the structure's close the members end, and the image stands
    pub members_closed : (most : ℕ) {image : List ℕ} → first_kind (left_at s k) ≡ 9
        → Applied s k (k + 1) image image (members_in (suc most) one (left_at s k))
    members_closed most {image} e =
        applied_keeps t.inside
        (members_close one most t.token (left_at s (k + 1)) (flat image) t.left (sym (kind_there t) ∙ e))

    -- an accepted entry that is no close names a member
    pub members_seven : (most : ℕ) (z : Bits) → (first_kind (left_at s k) ≡ 9 → ⊥)
        → accepted (members_in (suc most) one (left_at s k) z) ≡ true → kind_of t.token ≡ 7
    members_seven most z n h = go (native.Mathlib.Decide.ℕ_discrete (kind_of t.token) 7)
      where
        go : Dec (kind_of t.token ≡ 7) → kind_of t.token ≡ 7
        go (yes e) = e
        go (no e) =
            not_accepted
            (members_other one most t.token (left_at s (k + 1)) z t.left (λ q. n (kind_there t ∙ q)) e) h
