-- Laws of one round in code (document 01, "Order of building"): what the registries have that rounds reach, what the
-- loop over a book's types keeps, the ways on and the ways out of it.
use Rattle.std.specs.Prelude.{Option, Some, None, Result, Ok, Err}
use Prim.Native.Nat.{ℕ, ◌+◌, ◌-◌, ◌*◌, ◌<◌, ◌≤◌}
use native.Mathlib.Omega.{arith}
use mathlib.Core.Path.{◌≡◌, refl, ap, ◌∙◌}
use mathlib.Core.Bool.{true}
use mathlib.Core.List.{List, [], ◌∷◌, ◌++◌}
use lib.ListN.{length, get_or, set, length-set}
use Rattle.words.specs.Words.{Bytes}
use Rattle.words.proofs.WordLaws.{word_below}
use Rattle.types.specs.adding.Add.{no as against, yes as for, add_to}
use Rattle.types.specs.adding.Checks.{entries_from}
use Rattle.types.specs.atomics.Lookup.{row_names}
use Rattle.types.specs.book.Contents.{types_in, members_in, book_ok}
use Rattle.types.specs.inside.rounds.OneRound.{round_in, Reached, first, more, RoundIn, RoundMade}
use Rattle.types.specs.inside.rounds.Turns.{TurnIn, Turned, Tries}
use Rattle.types.specs.inside.tables.Registry.{view_in, Stands}
use Rattle.types.specs.refusals.Said.{Why, why_of}
use Rattle.types.specs.rounds.Order.{all_known}
use Rattle.types.specs.rounds.Resolve.{type_names, has_name}
use Rattle.types.specs.rounds.Rounds.{no, ok, went}
use Rattle.types.specs.rounds.Turns.{stuck_at, entries_at, count_of, decls_of, ready_in, verdict_on, add_in}
use Rattle.types.specs.tables.Defs.{Def}
use Rattle.types.specs.tables.Registry.{view_of}
use Rattle.types.specs.declared.adding.used.Used.{Used}
use Rattle.types.specs.declared.refusals.refusal.Refusal.{Refusal}
use Rattle.types.proofs.adding.VerdictLaws.{verdict_fits}
use Rattle.types.proofs.book.SoundLaws.{BookSound, sound, among_all}
use Rattle.types.proofs.rounds.RoundLaws.{round_keep}
use Rattle.types.proofs.rounds.RoundsKeep.{Begun, keeps, predefined_begun}
use Rattle.types.proofs.rounds.RunLaws.{Inner, inner_start, inner_past, inner_wait, inner_no, inner_yes}
use Rattle.types.proofs.rounds.RunLaws.{inner_end}
use Rattle.types.proofs.rounds.StandLaws.{turn_in, turn_same, turn_waits, turn_refused, turn_added, AddedBy}
use Rattle.types.proofs.rounds.StandLaws.{tries_stand}
use Rattle.types.proofs.rounds.WaitLaws.{waits_on}
use Rattle.types.proofs.tables.RegistryLaws.{stands_more}
use Rattle.types.proofs.tables.ShownLaws.{TablesShow, shown_more}

-- ---- registries that rounds reach

reached_begun : (book : List ℕ) → Bytes book → (ds : List Def) → Reached book ds → Begun ds
reached_begun book b _ (first ids q) = predefined_begun ids q
reached_begun book b _ (more ds ds' i r e) = keeps book b ds ds' i (reached_begun book b ds r) e

-- each type of a registry that rounds reach is shown by its row, and the rows after them are unused
pub reached_shown : {book : List ℕ} {ds : List Def} → Bytes book → Reached book ds → TablesShow ds
reached_shown {book} {ds} b r = (reached_begun book b ds r).good.shown

-- a round goes from one to another
pub reached_round : {book : List ℕ} {ds ds' : List Def} (ws : List ℕ) {ws' : List ℕ} → Reached book ds
    → round_in book ds ws ≡ went ds' ws' → Reached book ds'
reached_round {book} {ds} {ds'} ws {ws'} r e =
    round_keep stuck_at (ready_in book) (add_in book) (Reached book) (λ s s' i p h q. more s s' i p q) ds ws ds' ws'
    r e

-- ---- what the loop keeps

-- the book is good, has T types, and the scratch has room for the members of each
pub record Const (book tys : List ℕ) (T : ℕ) : Type 0 where
  pub bytes : Bytes book
  pub okay : book_ok book ≡ true
  pub is : T ≡ types_in book
  pub room : members_in book ≤ length tys

-- the types that the loop goes over are fewer than 65,536
pub const_small : {book tys : List ℕ} {T : ℕ} → Const book tys T → T < 65536
const_small {book} k = omega (arith, k.is, word_below 2 book 0 k.bytes)

-- what the loop has of book and scratch it has with another scratch of the same length
pub const_kept : {book tys tys' : List ℕ} {T : ℕ} → Const book tys T → length tys' ≡ length tys → Const book tys' T
const_kept k e = record { bytes = k.bytes; okay = k.okay; is = k.is; room = rw e k.room }

-- a round began with one registry that is known, and goes as the definition says from any that its tables stand for
pub record InRound (book : List ℕ) (T : ℕ) (t₀ m₀ n₀ tys₀ f₀ k₀ r₀ : List ℕ) (u₀ : Used)
    (t m n tys f k r : List ℕ) (u : Used) (left i at : ℕ) : Type 0 where
  pub const : Const book tys T
  pub began : List Def
  pub reached : Reached book began
  pub stood : Stands began t₀ m₀ n₀ u₀
  pub each : (ds : List Def) → Reached book ds → Stands ds t₀ m₀ n₀ u₀ → Inner book ds f₀ T t m n f u left i at
  pub words : length tys ≡ length tys₀
  pub flags : length f ≡ length f₀
  pub tries : Tries book (row_names t n u.types) k r
  pub members : length k ≡ length k₀
  pub rows : length r ≡ length r₀

-- a book that a round is given has fewer than 65,536 types
pub start_small : {book t m n tys f k r : List ℕ} {T left : ℕ} {u : Used} → RoundIn book T u left t m n tys f k r
    → Bytes book → T < 65536
start_small {book} p b = omega (arith, p.is, word_below 2 book 0 b)

-- a round begins at type 0, with the tables, flags and scratches that it is given
pub within_start : {book t m n tys f k r : List ℕ} {T left : ℕ} {u : Used} → RoundIn book T u left t m n tys f k r
    → Bytes book → InRound book T t m n tys f k r u t m n tys f k r u left 0 (4 + 16 * T)
within_start p b =
    record {
      const = record { bytes = b; okay = p.okay; is = p.is; room = p.room };
      began = p.defs;
      reached = p.reached;
      stood = p.stands;
      each = λ ds q s. inner_start (reached_shown b q) s p.is p.count p.flags;
      words = refl;
      flags = refl;
      tries = p.tries;
      members = refl;
      rows = refl;
    }

-- ---- adding, from the verdict

add_no : (book : List ℕ) (ds : List Def) (i : ℕ) (x : Why) → verdict_on book (view_of ds) i ≡ against x
    → add_in book ds i ≡ no x
unfolding add_in
add_no book ds i x q = rw q

add_yes : (book : List ℕ) (ds : List Def) (i : ℕ) (d : Def) → verdict_on book (view_of ds) i ≡ for d
    → add_in book ds i ≡ ok (ds ++ d ∷ [])
unfolding add_in
add_yes book ds i d q = rw q

module _ {book t₀ m₀ n₀ tys₀ f₀ k₀ r₀ t m n tys f k r : List ℕ} {T left i at : ℕ} {u₀ u : Used}
    (w : InRound book T t₀ m₀ n₀ tys₀ f₀ k₀ r₀ u₀ t m n tys f k r u left i at) where
  -- where the round stands from the registry that it began with
  pub within_now : Inner book w.began f₀ T t m n f u left i at
  within_now = w.each w.began w.reached w.stood

  -- ---- the end of a round

  -- past the last type the round was made: it refused none, and so many still wait
  pub made_all : T ≤ i → RoundMade book T u₀ t₀ m₀ n₀ f₀ t m n f k r (Ok (u, left))
  made_all l =
      record {
        each = λ ds q s.
            let v = w.each ds q s in
            let d = inner_end v l in
            record { defs = v.ds; is = d.0; stands = v.stands; count = d.1; tries = w.tries };
      }

  -- ---- the turn of type i

  module _ (l : i < T) where
    known : i < types_in book
    known = omega (arith, w.const.is, l)

    good : BookSound book
    good = sound book w.const.okay

    -- the turn of type i finds what it asks
    pub within_in : TurnIn t m n book tys k r i at u
    within_in =
        let v = within_now in
        turn_in v.shown v.stands book i at v.place tys w.const.bytes good known w.const.room w.tries

    -- the places of entries stay small
    pub within_near : at + 16 * count_of book i < 4 + 32 * 65536
    unfolding entries_at
    within_near =
        omega (
          arith,
          within_now.place,
          among_all good known,
          word_below 2 book 0 w.const.bytes,
          word_below 2 book 2 w.const.bytes,
        )

    -- the type whose turn it is has a flag
    pub within_flag : i < length f
    within_flag = omega (arith, within_now.flags, l)

    -- where type i waits, at least one type is left
    pub within_left : get_or f i 0 ≡ 0 → 1 ≤ left
    within_left o = omega (arith, within_now.count, ap length (waits_on f T i l o))

    -- a type that was added before is passed, and the round goes on with the next one
    pub within_past : (get_or f i 0 ≡ 0 → ⊥)
        → InRound book T t₀ m₀ n₀ tys₀ f₀ k₀ r₀ u₀ t m n tys f k r u left (i + 1) (at + 16 * count_of book i)
    within_past o =
        record {
          const = w.const;
          began = w.began;
          reached = w.reached;
          stood = w.stood;
          each = λ ds q s. inner_past (w.each ds q s) l o;
          words = w.words;
          flags = w.flags;
          tries = w.tries;
          members = w.members;
          rows = w.rows;
        }

    module _ {t' m' n' : List ℕ} {x : Result (Option Used) Refusal} (h : Turned
        (all_known has_name (row_names t n u.types) (type_names book at 0 (count_of book i)))
        (add_to (view_in t n u) book i at (decls_of (view_in t n u) book (entries_from book at 0 (count_of book i)))) u
        t m n t' m' n' x) (o : get_or f i 0 ≡ 0) where
      -- the turn against the definition, where the round stands
      turned : {ds₀ : List Def} (v : Inner book ds₀ f₀ T t m n f u left i at)
          → Turned (ready_in book v.ds i) (verdict_on book (view_of v.ds) i) u t m n t' m' n' x
      turned v = turn_same v.shown v.stands book i at v.place h

      -- where the turn refuses the type, the round was made with that refusal
      pub made_no : {k' r' : List ℕ} (y : Refusal) → x ≡ Err y
          → RoundMade book T u₀ t₀ m₀ n₀ f₀ t' m' n' f k' r' (Err y)
      made_no y e =
          record {
            each = λ ds q s.
                let v = w.each ds q s in
                let d = turn_refused (turned v) y e in
                inner_no v l (why_of y) o d.0 (add_no book v.ds i (why_of y) d.1);
          }

      -- with the type that was added
      module _ {ds₀ : List Def} (v : Inner book ds₀ f₀ T t m n f u left i at) (u' : Used) (e : x ≡ Ok (Some u')) where
        new : AddedBy (ready_in book v.ds i) (verdict_on book (view_of v.ds) i) u t m n t' m' n' u'
        new = turn_added (turned v) u' e

        new_shown : TablesShow (v.ds ++ new.d ∷ [])
        new_shown =
            shown_more v.ds new.d v.shown
            (verdict_fits book v.ds i new.d w.const.bytes v.shown new.is)

        new_stands : Stands (v.ds ++ new.d ∷ []) t' m' n' u'
        new_stands = stands_more new.d v.stands new.took

        grown : Inner book ds₀ f₀ T t' m' n' (set f i 1) u' (left - 1) (i + 1) (at + 16 * count_of book i)
        grown =
            inner_yes v l (v.ds ++ new.d ∷ []) o new.ready (add_yes book v.ds i new.d new.is) new_shown
            new_stands

      module _ {tys' k' r' : List ℕ} (kept : length tys' ≡ length tys) (kept_k : length k' ≡ length k)
          (kept_r : length r' ≡ length r) (tries : Tries book (row_names t n u.types) k' r') where
        -- where the type still waits, the round goes on with the next one and the same flags
        pub within_wait : x ≡ Ok None
            → InRound book T t₀ m₀ n₀ tys₀ f₀ k₀ r₀ u₀ t' m' n' tys' f k' r' u left (i + 1)
            (at + 16 * count_of book i)
        within_wait e =
            let d = turn_waits (turned within_now) e in
            rw (d.1.0, d.1.1.0, d.1.1.1)
            record {
              const = const_kept w.const kept;
              began = w.began;
              reached = w.reached;
              stood = w.stood;
              each = λ ds q s.
                  let v = w.each ds q s in
                  inner_wait v l o (turn_waits (turned v) e).0;
              words = kept ∙ w.words;
              flags = w.flags;
              tries = tries;
              members = kept_k ∙ w.members;
              rows = kept_r ∙ w.rows;
            }

        -- where the type is added, its flag is set, one fewer is left, and the round goes on with the next one
        pub within_yes : (u' : Used) → x ≡ Ok (Some u')
            → InRound book T t₀ m₀ n₀ tys₀ f₀ k₀ r₀ u₀ t' m' n' tys' (set f i 1) k' r' u' (left - 1) (i + 1)
            (at + 16 * count_of book i)
        within_yes u' e =
            let v = within_now in
            record {
              const = const_kept w.const kept;
              began = w.began;
              reached = w.reached;
              stood = w.stood;
              each = λ ds q s. grown (w.each ds q s) u' e;
              words = kept ∙ w.words;
              flags = length-set f i 1 ∙ w.flags;
              tries = tries_stand (new v u' e).d v.shown v.stands (new_shown v u' e) (new_stands v u' e) tries;
              members = kept_k ∙ w.members;
              rows = kept_r ∙ w.rows;
            }
