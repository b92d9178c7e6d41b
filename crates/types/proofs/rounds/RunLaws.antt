-- The loops of the rounds against the definition (document 01, "Order of building"): where one round stands, where the
-- rounds stand, and the ways out.
use Prim.Native.Nat.{ℕ, ◌+◌, ◌-◌, ◌*◌, ◌<◌, ◌≤◌}
use native.Mathlib.Nat.{add-zero, sub-zero, zero-add}
use native.Mathlib.Omega.{arith}
use mathlib.Core.Path.{◌≡◌, refl, sym, ap, ◌∙◌}
use mathlib.Core.Bool.{true, false, cond}
use mathlib.Core.List.{List, [], ◌∷◌, append-nil}
use borrow.Author.Tests.{eq-eqb, ne_eqb}
use lib.ListN.{length, get_or, set, length-append, length-set}
use Rattle.types.specs.book.Contents.{types_in}
use Rattle.types.specs.inside.rounds.Build.{waits}
use Rattle.types.specs.inside.rounds.OneRound.{round_in, Reached}
use Rattle.types.specs.inside.tables.Registry.{Stands}
use Rattle.types.specs.refusals.Said.{Why}
use Rattle.types.specs.rounds.Rounds.{no, ok, stop, went, Answer, refused, accepted, keep, on_step, on_round, round}
use Rattle.types.specs.rounds.Rounds.{rounds}
use Rattle.types.specs.rounds.Turns.{stuck_at, entries_at, count_of, ready_in, add_in, rounds_from}
use Rattle.types.specs.tables.Defs.{Def}
use Rattle.types.specs.declared.adding.used.Used.{Used}
use Rattle.types.proofs.book.SoundLaws.{entries_first, entries_next}
use Rattle.types.proofs.rounds.RoundLaws.{rounds_none, rounds_some}
use Rattle.types.proofs.rounds.WaitLaws.{waits_on, waits_off, waits_end, snoc_on, snoc_off, after_set, set_snoc}
use Rattle.types.proofs.rounds.WaitLaws.{waits_all, up_length, keep_all, keep_one, keep_none}
use Rattle.types.proofs.tables.ShownLaws.{TablesShow}

-- at most so many rounds over a book
abbrev pub rounds_in : List ℕ → ℕ → List Def → List ℕ → Answer (List Def) Why
rounds_in book k ds ws = rounds stuck_at (ready_in book) (add_in book) k ds ws

-- ---- one round

-- where a round stands that began with the registry ds₀ and the flags f₀
pub record Inner (book : List ℕ) (ds₀ : List Def) (f₀ : List ℕ) (T : ℕ) (t m n f : List ℕ) (u : Used) (left i at : ℕ)
    : Type 0 where
  pub ds : List Def
  pub shown : TablesShow ds
  pub stands : Stands ds t m n u
  pub passed : i ≤ T
  pub place : at ≡ entries_at book i
  pub goes : round_in book ds₀ (waits f₀ 0 T) ≡ keep_all (waits f 0 i) (round_in book ds (waits f i (T - i)))
  pub count : left ≡ length (waits f 0 i) + length (waits f i (T - i))
  pub flags : T ≤ length f

-- a round begins at type 0, with the registry that stands in the tables and the flags of that time
pub inner_start : {book f t m n : List ℕ} {ds : List Def} {u : Used} {left T : ℕ} → TablesShow ds → Stands ds t m n u
    → T ≡ types_in book → left ≡ length (waits f 0 T) → T ≤ length f
    → Inner book ds f T t m n f u left 0 (4 + 16 * T)
unfolding waits
inner_start {book} {ds = ds} s h e q g =
    record {
      ds = ds;
      shown = s;
      stands = h;
      passed = omega arith;
      place = rw e (entries_first book);
      goes = rw sub-zero (sym (keep_none _));
      count = rw (sub-zero, zero-add) q;
      flags = g;
    }

module _ {book f₀ t m n f : List ℕ} {ds₀ : List Def} {u : Used} {left i at T : ℕ}
    (w : Inner book ds₀ f₀ T t m n f u left i at) (l : i < T) where
  next_place : at + 16 * count_of book i ≡ entries_at book (i + 1)
  next_place = ap (λ (x : ℕ). x + 16 * count_of book i) w.place ∙ entries_next book i

  -- a type that was added before
  pub inner_past : (get_or f i 0 ≡ 0 → ⊥)
      → Inner book ds₀ f₀ T t m n f u left (i + 1) (at + 16 * count_of book i)
  inner_past o =
      record {
        ds = w.ds;
        shown = w.shown;
        stands = w.stands;
        passed = omega arith;
        place = next_place;
        goes = w.goes ∙ rw (waits_off f T i l o, snoc_off f i o);
        count = w.count ∙ rw (waits_off f T i l o, snoc_off f i o);
        flags = w.flags;
      }

  round_on : (ds : List Def) (ws : List ℕ) → round_in book ds (i ∷ ws)
      ≡ cond (ready_in book ds i) (on_step (add_in book ds i) (λ s. round_in book s ws)) (keep i (round_in book ds ws))
  unfolding round
  round_on ds ws = refl

  -- where the type still waits, the round goes on with the next one
  pub inner_wait : get_or f i 0 ≡ 0 → ready_in book w.ds i ≡ false
      → Inner book ds₀ f₀ T t m n f u left (i + 1) (at + 16 * count_of book i)
  inner_wait o r =
      record {
        ds = w.ds;
        shown = w.shown;
        stands = w.stands;
        passed = omega arith;
        place = next_place;
        goes = w.goes ∙ rw (waits_on f T i l o, round_on, r, snoc_on f i o)
            (keep_one (waits f 0 i) i (round_in book w.ds (waits f (i + 1) (T - (i + 1)))));
        count = w.count ∙ rw (waits_on f T i l o, snoc_on f i o, length-append) (omega arith);
        flags = w.flags;
      }

  -- where the type is refused, so is the round
  pub inner_no : (x : Why) → get_or f i 0 ≡ 0 → ready_in book w.ds i ≡ true → add_in book w.ds i ≡ no x
      → round_in book ds₀ (waits f₀ 0 T) ≡ stop x
  inner_no x o r a = w.goes ∙ rw (waits_on f T i l o, round_on, r, a)

  -- where the type is added, the round goes on with it known, its flag set and one fewer left
  pub inner_yes : {t' m' n' : List ℕ} {u' : Used} (ds : List Def) → get_or f i 0 ≡ 0 → ready_in book w.ds i ≡ true
      → add_in book w.ds i ≡ ok ds → TablesShow ds → Stands ds t' m' n' u'
      → Inner book ds₀ f₀ T t' m' n' (set f i 1) u' (left - 1) (i + 1) (at + 16 * count_of book i)
  inner_yes ds o r a s h =
      let z = set_snoc f i (omega (arith, w.flags)) in
      let y = after_set f i 1 (i + 1) (T - (i + 1)) (omega arith) in
      record {
        ds = ds;
        shown = s;
        stands = h;
        passed = omega arith;
        place = next_place;
        goes = w.goes ∙ rw (waits_on f T i l o, round_on, r, a, z, y);
        count = rw (z, y) (omega (arith, w.count, ap length (waits_on f T i l o)));
        flags = omega (arith, length-set f i 1, w.flags);
      }

-- at the end of a round it went as the definition says, and so many are left
pub inner_end : {book f₀ t m n f : List ℕ} {ds₀ : List Def} {u : Used} {left i at T : ℕ}
    (w : Inner book ds₀ f₀ T t m n f u left i at) → T ≤ i
    → (round_in book ds₀ (waits f₀ 0 T) ≡ went w.ds (waits f 0 T)) × (left ≡ length (waits f 0 T))
unfolding round
inner_end {f = f} {i = i} {T = T} w l =
    let e : i ≡ T = omega (arith, w.passed) in
    let z : waits f i (T - i) ≡ [] = waits_end f T i l in
    (w.goes ∙ rw (z, e, append-nil), w.count ∙ rw (z, e, add-zero))

-- ---- all rounds

-- where the rounds stand that began with the registry `start`
pub record Outer (book : List ℕ) (start : List Def) (T : ℕ) (t m n f : List ℕ) (u : Used) (left : ℕ) : Type 0 where
  pub ds : List Def
  pub fuel : ℕ
  pub reached : Reached book ds
  pub stands : Stands ds t m n u
  pub goes : rounds_from book start ≡ rounds_in book fuel ds (waits f 0 T)
  pub enough : left ≤ fuel
  pub count : left ≡ length (waits f 0 T)
  pub flags : T ≤ length f

-- the rounds begin with no flag set, so all types are left
pub outer_start : {book t m n f : List ℕ} {ds : List Def} {u : Used} {T : ℕ} → Reached book ds → Stands ds t m n u
    → T ≡ types_in book → ((k : ℕ) → get_or f k 0 ≡ 0) → T ≤ length f → Outer book ds T t m n f u T
unfolding rounds_from
outer_start {f = f} {ds = ds} {T = T} s h e z g =
    let q = waits_all f z 0 T in
    record {
      ds = ds;
      fuel = T;
      reached = s;
      stands = h;
      goes = rw (q, e);
      enough = omega arith;
      count = rw q (sym (up_length 0 T));
      flags = g;
    }

module _ {book t m n f : List ℕ} {start : List Def} {u : Used} {T left : ℕ} (o : Outer book start T t m n f u left)
  where
    -- where no type is left, the rounds accept the registry that they have come to
    pub outer_end : left ≡ 0 → rounds_from book start ≡ accepted o.ds
    outer_end e =
        o.goes ∙ rounds_none stuck_at (ready_in book) (add_in book) o.fuel o.ds _ (sym o.count ∙ e)

    module _ (l : 0 < left) where
      some : rounds_in book o.fuel o.ds (waits f 0 T)
          ≡ on_round stuck_at (length (waits f 0 T)) (round_in book o.ds (waits f 0 T))
          (λ s ws. rounds_in book (o.fuel - 1) s ws)
      some =
          rounds_some stuck_at (ready_in book) (add_in book) o.fuel o.ds (waits f 0 T)
          (omega (arith, o.count)) (omega (arith, o.count, o.enough))

      -- where a round refuses a type, the rounds give its refusal
      pub outer_stop : (x : Why) → round_in book o.ds (waits f 0 T) ≡ stop x → rounds_from book start ≡ refused x
      outer_stop x r = o.goes ∙ some ∙ rw r

      -- where a round leaves as many as it began with, the rounds give refusal 10 at the first that waits
      pub outer_stuck : {ds : List Def} {ws : List ℕ} → round_in book o.ds (waits f 0 T) ≡ went ds ws
          → length ws ≡ left → rounds_from book start ≡ refused (stuck_at (get_or ws 0 0))
      outer_stuck r e = o.goes ∙ some ∙ rw r (simp (eq-eqb _ _ (e ∙ o.count)))

      -- where a round leaves fewer, the rounds go on with the registry and the flags after it
      pub outer_next : {ds : List Def} {t' m' n' g : List ℕ} {u' : Used} {left' : ℕ}
          → round_in book o.ds (waits f 0 T) ≡ went ds (waits g 0 T) → Reached book ds → Stands ds t' m' n' u'
          → left' ≡ length (waits g 0 T) → T ≤ length g → left' < left → Outer book start T t' m' n' g u' left'
      outer_next {ds} {g = g} r s h e y d =
          record {
            ds = ds;
            fuel = o.fuel - 1;
            reached = s;
            stands = h;
            goes = o.goes ∙ some ∙ rw r
                (simp (ne_eqb (length (waits g 0 T)) (length (waits f 0 T)) (λ q. omega (arith, o.count))));
            enough = omega (arith, o.enough);
            count = e;
            flags = y;
          }
