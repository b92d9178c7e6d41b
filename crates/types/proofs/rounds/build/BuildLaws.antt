-- Laws of building (document 01, "Order of building"): what the loop over the rounds keeps, the way on and the ways out
-- of it, and the ways out before the rounds.
use Rattle.std.specs.Prelude.{Result, Ok, Err}
use Prim.Native.Nat.{ℕ, ◌<◌, ◌≤◌}
use native.Mathlib.Omega.{arith}
use mathlib.Core.Path.{◌≡◌, refl, sym, ◌∙◌}
use mathlib.Core.Bool.{true, false}
use mathlib.Core.List.{List}
use lib.ListN.{length}
use Rattle.words.specs.Words.{Bytes}
use Rattle.types.specs.atomics.Lookup.{row_names}
use Rattle.types.specs.book.Contents.{book_ok}
use Rattle.types.specs.inside.rounds.Build.{FirstWaits, Cleared, RunIn, waits}
use Rattle.types.specs.inside.rounds.OneRound.{round_in, Reached, RoundIn, RoundMade, RoundGoes}
use Rattle.types.specs.inside.rounds.Turns.{Tries}
use Rattle.types.specs.inside.tables.Registry.{Stands}
use Rattle.types.specs.layout.Predefined.{predefined_ids, predefined}
use Rattle.types.specs.refusals.Said.{Why, why_of}
use Rattle.types.specs.rounds.Build.{build_of, Ended}
use Rattle.types.specs.rounds.Rounds.{Answer, refused}
use Rattle.types.specs.rounds.Turns.{stuck_at, ready_in, add_in, rounds_from}
use Rattle.types.specs.tables.Defs.{Def}
use Rattle.types.specs.tables.Limits.{most_types}
use Rattle.types.specs.declared.adding.used.Used.{Used}
use Rattle.types.specs.declared.layout.predefined.PredefinedIds.{PredefinedIds}
use Rattle.types.specs.declared.refusals.refusal.Refusal.{Refusal}
use Rattle.types.specs.declared.refusals.refusal.Refusal.TheVariants.{TypesUnknown, BookMalformed}
use Rattle.types.specs.declared.refusals.refusal.Refusal.TheVariants.{PredefinedIds as ids_wrong}
use Rattle.types.proofs.rounds.OneRoundLaws.{Const, const_kept, reached_shown, reached_round}
use Rattle.types.proofs.rounds.RoundLaws.{round_fewer}
use Rattle.types.proofs.rounds.RunLaws.{Outer, outer_start, outer_end, outer_stop, outer_stuck, outer_next}
use Rattle.types.proofs.rounds.SearchLaws.{tries_start}

-- ---- what the loop keeps

-- between rounds
pub record Going (book : List ℕ) (start : List Def) (T : ℕ) (tys₀ f₀ k₀ r₀ t m n tys f k r : List ℕ) (u : Used)
    (left : ℕ) : Type 0 where
  pub const : Const book tys T
  pub outer : Outer book start T t m n f u left
  pub words : length tys ≡ length tys₀
  pub flags : length f ≡ length f₀
  pub tries : Tries book (row_names t n u.types) k r
  pub members : length k ≡ length k₀
  pub rows : length r ≡ length r₀

-- before the first round all types are left, and the tables are those of the registry to begin with
pub going_start : {book tys f k r t m n types members names : List ℕ} {T : ℕ} {ids : PredefinedIds} {ds : List Def}
    {u : Used}
    → RunIn book T ids types members names tys f k r → Bytes book → Reached book ds → Stands ds t m n u
    → Going book ds T tys f k r t m n tys f k r u T
going_start p bytes reached s =
    record {
      const = record { bytes = bytes; okay = p.okay; is = p.is; room = p.scratch.room p.okay };
      outer = outer_start reached s p.is p.scratch.unset
          (rw p.is (p.scratch.flags p.okay));
      words = refl;
      flags = refl;
      tries = tries_start (p.scratch.members p.okay) (p.scratch.rows p.okay) p.scratch.untried;
      members = refl;
      rows = refl;
    }

-- ---- the ways out

ended_refused : {t m n : List ℕ} (a : Answer (List Def) Why) (x : Refusal) → a ≡ refused (why_of x) → Cleared t m n
    → Ended a t m n (Err x)
ended_refused a x e c =
    record { is = rw e; types = rw e c.types; members = rw e c.members; names = rw e c.names }

-- between rounds at most 200 types are used
pub going_few : {book tys₀ f₀ k₀ r₀ t m n tys f k r : List ℕ} {start : List Def} {T left : ℕ} {u : Used}
    → Going book start T tys₀ f₀ k₀ r₀ t m n tys f k r u left → u.types ≤ most_types
going_few g = rw g.outer.stands.used (reached_shown g.const.bytes g.outer.reached).few

-- where no type is left, the rounds end with so many types, and the tables are theirs
pub ended_all : {book tys₀ f₀ k₀ r₀ t m n tys f k r : List ℕ} {start : List Def} {T left : ℕ} {u : Used}
    → Going book start T tys₀ f₀ k₀ r₀ t m n tys f k r u left → left ≡ 0
    → Ended (rounds_from book start) t m n (Ok u.types)
ended_all g l =
    let o = g.outer in
    let e = outer_end o l in
    let s = o.stands in
    record { is = rw (e, s.used); types = rw e s.types; members = rw e s.members; names = rw e s.names }

-- ---- one round

module _ {book tys₀ f₀ k₀ r₀ t m n tys f k r : List ℕ} {start : List Def} {T left : ℕ} {u : Used}
    (g : Going book start T tys₀ f₀ k₀ r₀ t m n tys f k r u left) where
  -- between rounds the next one finds what it asks
  pub going_in : RoundIn book T u left t m n tys f k r
  going_in =
      let o = g.outer in
      record {
        okay = g.const.okay;
        is = g.const.is;
        defs = o.ds;
        reached = o.reached;
        stands = o.stands;
        flags = o.flags;
        count = o.count;
        room = g.const.room;
        tries = g.tries;
      }

  module _ {t' m' n' f' k' r' : List ℕ} {x : Result (Used × ℕ) Refusal}
      (h : RoundMade book T u t m n f t' m' n' f' k' r' x) (l : 0 < left) where
    -- where a round refused a type, the rounds end with its refusal and tables of zeros
    pub ended_no : {a b c : List ℕ} (y : Refusal) → x ≡ Err y → Cleared a b c
        → Ended (rounds_from book start) a b c (Err y)
    ended_no y e =
        let o = g.outer in
        ended_refused (rounds_from book start) y
        (outer_stop o l (why_of y) ((rw e at h).each o.ds o.reached o.stands))

    -- a round that refused no type
    module _ (u' : Used) (left' : ℕ) (e : x ≡ Ok (u', left')) where
      goes : RoundGoes book T (round_in book g.outer.ds (waits f 0 T)) t' m' n' f' k' r' u' left'
      goes =
          let o = g.outer in
          (rw e at h).each o.ds o.reached o.stands

      -- where a round left as many as before, the rounds end with refusal 10 at the first that waits, tables zero
      pub ended_stuck : {a b c : List ℕ} (p : ℕ) → left' ≡ left → FirstWaits f' T p → Cleared a b c
          → Ended (rounds_from book start) a b c (Err (TypesUnknown p))
      ended_stuck p q w =
          ended_refused (rounds_from book start) (TypesUnknown p)
          (outer_stuck g.outer l goes.is (sym goes.count ∙ q) ∙ rw w.is)

      -- a round that left another number of types left fewer
      pub going_less : (left' ≡ left → ⊥) → left' < left
      going_less q =
          omega (
            arith,
            goes.count,
            g.outer.count,
            round_fewer stuck_at (ready_in book) (add_in book) g.outer.ds (waits f 0 T) goes.defs
                goes.is,
            q,
          )

      -- after a round that left fewer, the loop goes on with what it left
      pub going_next : {tys' : List ℕ} → (left' ≡ left → ⊥) → length tys' ≡ length tys → length f' ≡ length f
          → length k' ≡ length k → length r' ≡ length r
          → Going book start T tys₀ f₀ k₀ r₀ t' m' n' tys' f' k' r' u' left'
      going_next q kept kept_f kept_k kept_r =
          let o = g.outer in
          record {
            const = const_kept g.const kept;
            outer = outer_next o l goes.is (reached_round _ o.reached goes.is) goes.stands
                goes.count (rw kept_f o.flags) (going_less q);
            words = kept ∙ g.words;
            flags = kept_f ∙ g.flags;
            tries = goes.tries;
            members = kept_k ∙ g.members;
            rows = kept_r ∙ g.rows;
          }

-- ---- before the rounds

module _ (ids : PredefinedIds) (book : List ℕ) where
  -- where the predefined ids are wrong, the build ends with 22 and tables of zeros
  pub ended_ids : {t m n : List ℕ} → predefined_ids ids ≡ false → Cleared t m n
      → Ended (build_of ids book) t m n (Err ids_wrong)
  unfolding build_of
  ended_ids q = ended_refused _ ids_wrong (rw q)

  module _ (q : predefined_ids ids ≡ true) where
    -- where the ids are right but the book is malformed, the build ends with 1 and tables of zeros
    pub ended_book : {t m n : List ℕ} → book_ok book ≡ false → Cleared t m n
        → Ended (build_of ids book) t m n (Err BookMalformed)
    unfolding build_of
    ended_book p = ended_refused _ BookMalformed (rw (q, p))

    -- where ids and book are right, the build ends as the rounds after the predefined types do
    pub ended_run : {t m n : List ℕ} {r : Result ℕ Refusal} → book_ok book ≡ true
        → Ended (rounds_from book (predefined ids)) t m n r → Ended (build_of ids book) t m n r
    unfolding build_of
    ended_run p h = rw (q, p) h
