-- Every layout is laid (document 01, "Layout"): each part has an earlier type and lies inside the size, no two visible
-- parts share a bit, and those that are no BOOLs stand in their order. A UDT, an AOI, a string, and the predefined
-- types.
use Rattle.std.specs.Prelude.{Some, Result, Ok, Err}
use Prim.Native.Nat.{ℕ, zero, suc, ◌+◌, ◌-◌, ◌*◌, ◌≤◌, ◌<◌}
use native.Mathlib.Omega.{arith}
use mathlib.Core.Path.{◌≡◌, refl, sym, ◌∙◌}
use mathlib.Core.Bool.{Bool, true, false, true≢false}
use mathlib.Core.List.{List, [], ◌∷◌, ◌++◌}
use mathlib.Core.Logic.{inl, inr}
use lib.ListN.{length, get_or, drop}
use Rattle.types.specs.atomics.Atomic.{size_of}
use Rattle.types.specs.inside.layout.Passes.{then_parts, parts_from, measured, udt_parts, aoi_parts, parts_of, came}
use Rattle.types.specs.inside.layout.Passes.{measured_aoi, measured_of}
use Rattle.types.specs.layout.HostNames.{host_name}
use Rattle.types.specs.layout.Laid.{first_bit, past_bit, Apart, Clear, Plain, Rising, Lies, Laid, Resolved, Every}
use Rattle.types.specs.layout.Placing.{times, align_up, placed}
use Rattle.types.specs.layout.Structs.{named, rounded_size, udt_start, bools, aoi_hosts, bit_host_at, host_parts}
use Rattle.types.specs.layout.Structs.{enable_at, enable_out, aoi_start, string_parts, string_size, data_of, dint_at}
use Rattle.types.specs.layout.Structs.{status_at, status_parts, ctl_at, control_parts}
use Rattle.types.specs.tables.Defs.{Part}
use Rattle.types.specs.declared.layout.placing.Cursor.{Cursor}
use Rattle.types.specs.declared.layout.placing.Decl.{Decl}
use Rattle.types.specs.declared.layout.placing.LayoutFault.{LayoutFault}
use Rattle.types.specs.declared.layout.placing.LayoutFault.TheVariants.{AccessWrong, TooFar}
use Rattle.types.specs.declared.layout.placing.Placed.{Placed}
use Rattle.types.specs.declared.layout.placing.Placed.TheVariants.{Hosted, One}
use Rattle.types.specs.declared.tables.member.Member.{Member}
use Rattle.types.proofs.layout.FreeLaws.{HostReady, BitsTaken, MemberStep, HostStep, PlacedStep, not_plain}
use Rattle.types.proofs.layout.FreeLaws.{steps}
use Rattle.types.proofs.layout.LayoutLaws.{times_one, times_same}
use Rattle.types.proofs.layout.PlaceLaws.{LayoutEnds, came_cursor, no_access, no_far}

-- ---- declared members, one after the other

-- a hidden part shares no bit with a visible one
hidden_clear : (sizes : ℕ → ℕ) (m : Member) → m.hidden ≡ true → (ps : List Part) → Clear sizes m ps
unfolding Clear
hidden_clear sizes m h [] = tt
hidden_clear sizes m h (p ∷ ps) = (λ v w. absurd (true≢false (sym h ∙ v)), hidden_clear sizes m h ps)

-- a part that is not plain stands in no order
free_rising : (sizes : ℕ → ℕ) (m : Member) → (Plain m → ⊥) → (ps : List Part) → Rising sizes m ps
unfolding Rising
free_rising sizes m f [] = tt
free_rising sizes m f (p ∷ ps) = (λ v w. absurd (f v), free_rising sizes m f ps)

hidden_rising : (sizes : ℕ → ℕ) (m : Member) → m.hidden ≡ true → (ps : List Part) → Rising sizes m ps
hidden_rising sizes m h ps = free_rising sizes m (λ v. true≢false (sym h ∙ v.visible)) ps

bool_rising : (sizes : ℕ → ℕ) (m : Member) (k : ℕ) → m.bit ≡ Some k → (ps : List Part) → Rising sizes m ps
bool_rising sizes m k e ps = free_rising sizes m (λ v. not_plain e v) ps

-- what holds of the parts from a cursor on, in a structure of so many bytes: nothing of what was before is in their way
record Rest (sizes : ℕ → ℕ) (limit i size : ℕ) (c : Cursor) (ps : List Part) : Type 0 where
  room : c.offset ≤ size
  laid : Laid sizes i size ps
  clear : (m : Member) → BitsTaken sizes limit c m → Clear sizes m ps
  rising : (m : Member) → past_bit sizes m ≤ 8 * c.offset → Rising sizes m ps

module _ {sizes : ℕ → ℕ} {limit i size : ℕ} {c c' : Cursor} {ds : List Decl}
    {m : Member} {name : List ℕ} {ps : List Part} where
  -- a visible part before the others
  one_more : MemberStep sizes limit i c ds m c' → Rest sizes limit i size c' ps
      → Rest sizes limit i size c (named name m ∷ ps)
  unfolding Laid Clear Rising
  one_more s r =
      record {
        room = omega arith;
        laid = (
          record {
            earlier = s.earlier;
            inside = omega arith;
            clear = r.clear m s.taken;
            rising = r.rising m s.taken.before;
          },
          r.laid,
        );
        clear = λ x u. (λ v w. s.apart x u, r.clear x (s.keeps _ _ u));
        rising = λ x u. (λ v w. omega (arith, u, s.onto w), r.rising x (omega (arith, u, s.onward)));
      }

  -- a hidden part before the others
  host_more : HostStep sizes limit i c ds m c' → c'.offset ≤ size → Rest sizes limit i size c ps
      → Rest sizes limit i size c (named name m ∷ ps)
  unfolding Laid Clear Rising
  host_more s l r =
      record {
        room = r.room;
        laid = (
          record {
            earlier = s.earlier;
            inside = omega arith;
            clear = hidden_clear sizes m s.hidden ps;
            rising = hidden_rising sizes m s.hidden ps;
          },
          r.laid,
        );
        clear = λ x u. (λ v w. absurd (true≢false (sym s.hidden ∙ w)), r.clear x u);
        rising = λ x u. (λ v w. absurd (true≢false (sym s.hidden ∙ w.visible)), r.rising x u);
      }

module _ (sizes : ℕ → ℕ) (limit i size : ℕ) (name : Decl → List ℕ) (host : ℕ → List ℕ) (e : Cursor) (n : ℕ) where
  -- where the layout of these members ends at e, it is as said
  abbrev LaidFrom : List Decl → Type 0
  LaidFrom ds =
      (c : Cursor) (n₀ : ℕ) → HostReady limit c ds → measured host c n₀ ds ≡ came e n
      → Rest sizes limit i size c (parts_from name host c ds)

  rest_then : (c : Cursor) (d : Decl) (n₀ : ℕ) (ds : List Decl) → LaidFrom ds → (p : Result Placed LayoutFault)
      → PlacedStep sizes limit i c ds p
      → LayoutEnds host e n c n₀ d ds p
      → Rest sizes limit i size c (then_parts p (host c.members) (name d) (λ c'. parts_from name host c' ds))
  rest_then c d n₀ ds go (Ok (Hosted h m c')) (f, s) q =
      let r = go c' _ s.ready q in
      host_more f r.room (one_more s r)
  rest_then c d n₀ ds go (Ok (One m c')) s q = one_more s (go c' _ s.ready q)
  rest_then c d n₀ ds go (Err AccessWrong) s q = no_access q
  rest_then c d n₀ ds go (Err TooFar) s q = no_far q

  rest : (ds : List Decl) → Every (Resolved sizes i) ds → e.offset ≤ size → LaidFrom ds
  unfolding Every measured parts_from Laid Clear Rising
  rest [] rs l c n₀ k q =
      record { room = rw (came_cursor q) l; laid = tt; clear = λ m u. tt; rising = λ m u. tt }
  rest (d ∷ ds) (r, rs) l c n₀ k q = rest_then c d n₀ ds (rest ds rs l) (placed c d) (steps k r) q

-- the size is not below the offset that it is rounded from
size_room : (c : Cursor) → c.offset ≤ rounded_size c
unfolding align_up
size_room c = omega arith

module _ (sizes : ℕ → ℕ) (i : ℕ) where
  -- ---- UDT

  udt_laid : (name : Decl → List ℕ) (type : List ℕ) (ds : List Decl) (n₀ : ℕ) (c : Cursor) (n : ℕ)
      → Every (Resolved sizes i) ds → measured (host_name type) udt_start n₀ ds ≡ came c n
      → Laid sizes i (rounded_size c) (udt_parts name type ds)
  unfolding udt_parts
  udt_laid name type ds n₀ c n rs q =
      (rest sizes (bools ds) i (rounded_size c) name (host_name type) c n ds rs (size_room c) udt_start n₀
      (omega arith) q).laid

  -- ---- AOI

  -- so many hosts from the k-th on, before other parts
  hosts_laid : (size k h : ℕ) (ps : List Part) → 4 * (k + h) ≤ size → Laid sizes i size ps
      → Laid sizes i size (host_parts k h ++ ps)
  unfolding host_parts Laid size_of times
  hosts_laid size k zero ps l r = r
  hosts_laid size k (suc h) ps l r =
      let rest = host_parts (k + 1) h ++ ps in (
        record {
          earlier = tt;
          inside = omega arith;
          clear = hidden_clear sizes (bit_host_at k) refl rest;
          rising = hidden_rising sizes (bit_host_at k) refl rest;
        },
        hosts_laid size (k + 1) h ps (omega arith) r,
      )

  -- EnableIn and EnableOut have bits 0 and 1, and all BOOLs to come fit into the hosts
  aoi_laid : (name : Decl → List ℕ) (type : List ℕ) (ds : List Decl) (n₀ : ℕ) (c : Cursor) (n : ℕ)
      → Every (Resolved sizes i) ds → measured (host_name type) (aoi_start (aoi_hosts ds)) n₀ ds ≡ came c n
      → Laid sizes i (rounded_size c) (aoi_parts name type ds)
  unfolding aoi_parts aoi_hosts Laid Clear
  aoi_laid name type ds n₀ c n rs q =
      let h = aoi_hosts ds in
      let start = aoi_start h in
      let r = rest sizes (32 * h) i (rounded_size c) name (host_name type) c n ds rs (size_room c) start n₀
      (omega arith) q in
      let room : 4 * h ≤ rounded_size c = r.room in
      let others = parts_from name (host_name type) start ds in
      let clear : (bit : ℕ) → bit < 2 → Clear sizes (enable_at bit) others =
      λ bit b. r.clear (enable_at bit) (record { before = omega arith; beside = inl (omega arith) }) in
      let unordered : (bit : ℕ) (ps : List Part) → Rising sizes (enable_at bit) ps =
      λ bit ps. bool_rising sizes (enable_at bit) bit refl ps in
      let out : Laid sizes i (rounded_size c) (named enable_out (enable_at 1) ∷ others) = (
        record { earlier = tt; inside = omega arith; clear = clear 1 (omega arith); rising = unordered 1 others },
        r.laid,
      ) in
      let apart : Clear sizes (enable_at 0) (named enable_out (enable_at 1) ∷ others) =
      (λ v w. inl (omega arith), clear 0 (omega arith)) in
      hosts_laid (rounded_size c) 0 h _ (omega arith)
      (record { earlier = tt; inside = omega arith; clear = apart; rising = unordered 0 _ }, out)

  -- the parts of a UDT or an AOI that was measured to its end are laid out well
  pub type_laid : (aoi : Bool) (name : Decl → List ℕ) (type : List ℕ) (ds : List Decl) (c : Cursor) (n : ℕ)
      → Every (Resolved sizes i) ds → measured_of aoi type ds ≡ came c n
      → Laid sizes i (rounded_size c) (parts_of aoi name type ds)
  unfolding measured_aoi
  type_laid true name type ds c n rs q = aoi_laid name type ds _ c n rs q
  type_laid false name type ds c n rs q = udt_laid name type ds 0 c n rs q

  -- ---- strings

  -- the parts of a string with a capacity above 0 are laid out well
  pub string_laid : (c : ℕ) → 0 < c → Laid sizes i (string_size c) (string_parts c)
  unfolding string_parts string_size align_up Laid Clear Rising size_of
  string_laid c l =
      let one : 1 ≡ times 0 = times_one 0 refl in
      let all : c ≡ times c = times_same c (omega arith) in
      let data_laid : Laid sizes i (string_size c) (named (68 ∷ 65 ∷ 84 ∷ 65 ∷ []) (data_of c) ∷ []) =
      (record { earlier = tt; inside = omega arith; clear = tt; rising = tt }, tt) in (
        record {
          earlier = tt;
          inside = omega arith;
          clear = (λ v w. inl (omega arith), tt);
          rising = (λ v w. omega arith, tt);
        },
        data_laid,
      )

  -- ---- predefined

  -- the BOOLs from the k-th on lie below bit 32 - k
  status_clear : (m : Member) (k : ℕ) (bits : List (List ℕ)) → k + length bits ≤ 32 → 32 - k ≤ first_bit m
      → Clear sizes m (status_parts k bits)
  unfolding status_parts Clear
  status_clear m k [] l f = tt
  status_clear m k (b ∷ bits) l f =
      (λ v w. inr (omega arith), status_clear m (k + 1) bits (omega arith) (omega arith))

  status_laid : (k : ℕ) (bits : List (List ℕ)) → k + length bits ≤ 32 → Laid sizes i 12 (status_parts k bits)
  unfolding status_parts Laid
  status_laid k [] l = tt
  status_laid k (b ∷ bits) l =
      let below = status_clear (status_at k) (k + 1) bits (omega arith) (omega arith) in
      let unordered = bool_rising sizes (status_at k) _ refl (status_parts (k + 1) bits) in (
        record { earlier = tt; inside = omega arith; clear = below; rising = unordered },
        status_laid (k + 1) bits (omega arith),
      )

  -- and are in no order with a word
  status_rising : (m : Member) (k : ℕ) (bits : List (List ℕ)) → Rising sizes m (status_parts k bits)
  unfolding status_parts Rising
  status_rising m k [] = tt
  status_rising m k (b ∷ bits) = (λ v w. not_plain refl w, status_rising m (k + 1) bits)

  -- CTL has 32 bits, below both words
  pub control_laid : (one two : List ℕ) (bits : List (List ℕ)) → length bits ≤ 32
      → Laid sizes i 12 (control_parts one two bits)
  unfolding control_parts Laid Clear Rising size_of times
  control_laid one two bits l =
      let below : (m : Member) → 32 ≤ first_bit m → Clear sizes m (status_parts 0 bits) =
      λ m f. status_clear m 0 bits (omega arith) (omega arith) in
      let bools_laid = status_laid 0 bits (omega arith) in
      let second = named two (dint_at 8) ∷ status_parts 0 bits in
      let second_laid : Laid sizes i 12 second = (
        record {
          earlier = tt;
          inside = omega arith;
          clear = below (dint_at 8) (omega arith);
          rising = status_rising (dint_at 8) 0 bits;
        },
        bools_laid,
      ) in
      let first = named one (dint_at 4) ∷ second in
      let apart : Clear sizes (dint_at 4) second = (λ v w. inl (omega arith), below (dint_at 4) (omega arith)) in
      let rising : Rising sizes (dint_at 4) second = (λ v w. omega arith, status_rising (dint_at 4) 0 bits) in
      let first_laid : Laid sizes i 12 first =
      (record { earlier = tt; inside = omega arith; clear = apart; rising = rising }, second_laid) in (
        record {
          earlier = tt;
          inside = omega arith;
          clear = hidden_clear sizes ctl_at refl first;
          rising = hidden_rising sizes ctl_at refl first;
        },
        first_laid,
      )

-- ---- parts by their numbers

module _ (sizes : ℕ → ℕ) (i size : ℕ) (x : Part) where
  -- the k-th of parts that are laid out well lies as it should before those after it
  pub part_lies : (ps : List Part) (k : ℕ) → Laid sizes i size ps → k < length ps
      → Lies sizes i size (get_or ps k x).member (drop (suc k) ps)
  unfolding Laid
  part_lies [] k d l = absurd (omega arith)
  part_lies (p ∷ ps) zero (d, ds) l = d
  part_lies (p ∷ ps) (suc k) (d, ds) l = part_lies ps k ds (omega arith)

  clear_part : (m : Member) (ps : List Part) (k : ℕ) → Clear sizes m ps → k < length ps
      → m.hidden ≡ false → (get_or ps k x).member.hidden ≡ false → Apart sizes m (get_or ps k x).member
  unfolding Clear
  clear_part m [] k c l v w = absurd (omega arith)
  clear_part m (p ∷ ps) zero (c, cs) l v w = c v w
  clear_part m (p ∷ ps) (suc k) (c, cs) l v w = clear_part m ps k cs (omega arith) v w

  -- no two visible parts share a bit
  pub parts_apart : (ps : List Part) (j k : ℕ) → Laid sizes i size ps → j < k → k < length ps
      → (get_or ps j x).member.hidden ≡ false → (get_or ps k x).member.hidden ≡ false
      → Apart sizes (get_or ps j x).member (get_or ps k x).member
  unfolding Laid
  parts_apart [] j k d o l v w = absurd (omega arith)
  parts_apart (p ∷ ps) j zero d o l v w = absurd (omega arith)
  parts_apart (p ∷ ps) zero (suc k) (d, ds) o l v w = clear_part p.member ps k d.clear (omega arith) v w
  parts_apart (p ∷ ps) (suc j) (suc k) (d, ds) o l v w = parts_apart ps j k ds (omega arith) (omega arith) v w
