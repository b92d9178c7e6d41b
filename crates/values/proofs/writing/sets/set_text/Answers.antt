-- `values::set_text` meets its contract: null keeps what stands, and a text sets LEN, its bytes, and zeros after them.
use Prim.Native.Nat.{ℕ, ◌+◌, ◌*◌, ◌/◌, ◌%◌, ◌^◌}
use native.Mathlib.Omega.{arith}
use mathlib.Core.List.{List}
use mathlib.Core.Path.{◌≡◌, refl, sym, ap, ap₂, ◌∙◌}
use lib.ListN.{length}
use Rattle.words.specs.Bits.{flat}
use Rattle.values.specs.stream.Form.{base_in}
use Rattle.values.specs.writing.Effects.{as_text, or_null}
use Rattle.values.proofs.stream.LeftLaws.{EntryThere, entries_inside, few_entries, payload_of_entry}
use Rattle.values.proofs.writing.ApplyLaws.{one_there}
use Rattle.values.proofs.writing.sets.SetLaws.{TextFits, body_part, one_kept, text_fits, text_set}
use Rattle.values.proofs.writing.sets.set_text.Goals as goal
use Rattle.values.proofs.writing.sets.set_text.Goals.{After-low32, After-high32-long, Else-kind_of-eq-NULL, Start}

-- the entry is there
there : (c : Start) → EntryThere c.args.s.now c.args.k
there c =
    let a = c.args in
    one_there c.requires.formed.0 (or_null (as_text a.capacity)) (32 + 8 * a.capacity) (8 * a.base)
    (flat a.image.now) c.requires.right

-- and where it is no null, its text has room
record Fits (s : List ℕ) (k capacity : ℕ) : Type 0 where
  entry : EntryThere s k
  fits : TextFits s k capacity entry.token

fits : (c : Else-kind_of-eq-NULL) → Fits c.args.s.now c.args.k c.args.capacity
fits c =
    let a = c.args in
    let entry : EntryThere a.s.now a.k =
    one_there c.requires.formed.0 (or_null (as_text a.capacity)) (32 + 8 * a.capacity) (8 * a.base)
    (flat a.image.now) c.requires.right in
    record {
      entry = entry;
      fits = text_fits entry a.capacity (8 * a.base) (flat a.image.now)
          (λ e. c.if-kind_of-eq-NULL.false (c.kind_of.ensures ∙ e)) c.requires.right;
    }

-- what the code reads: how long the text is, and where it begins
long_is : (c : After-high32-long) → c.high32-long.result ≡ payload_of_entry c.args.s.now c.args.k / 2 ^ 32
long_is c = c.high32-long.ensures ∙ ap (λ (x : ℕ). x / 2 ^ 32) c.payload_of-x.ensures

start_is : (c : After-low32)
    → 4 + 12 * c.load.result + c.low32.result
    ≡ base_in c.args.s.now + payload_of_entry c.args.s.now c.args.k % 2 ^ 32
start_is c =
    ap₂ (λ (m n : ℕ). 4 + 12 * m + n) c.load.ensures
    (c.low32.ensures ∙ ap (λ (x : ℕ). x % 2 ^ 32) c.payload_of-x.ensures)

pub kind_of-requires : goal.kind_of-requires
kind_of-requires c = (c.requires.formed.0, (there (goal.at.kind_of-requires c).Start).inside)

pub overflow_add-result : goal.overflow_add-result
overflow_add-result c =
    omega (
      arith,
      (there (goal.at.overflow_add-result c).Start).inside,
      few_entries c.args.s.now c.requires.formed.0,
    )

pub returns-then-kind_of-eq-NULL : goal.returns-then-kind_of-eq-NULL
returns-then-kind_of-eq-NULL c =
    let a = c.args in
    one_kept (there (goal.at.returns-then-kind_of-eq-NULL c).Start) (as_text a.capacity) (32 + 8 * a.capacity)
    (8 * a.base) (sym c.kind_of.ensures ∙ c.if-kind_of-eq-NULL.true)

pub payload_of-x-requires : goal.payload_of-x-requires
payload_of-x-requires c = (c.requires.formed.0, (there (goal.at.payload_of-x-requires c).Start).inside)

pub load-requires : goal.load-requires
load-requires c = omega (arith, entries_inside c.args.s.now c.requires.formed.0)

pub slice_bounds-copy-end : goal.slice_bounds-copy-end
slice_bounds-copy-end c =
    let w = fits (goal.at.slice_bounds-copy-end c).Else-kind_of-eq-NULL in
    omega (
      arith,
      w.fits.there.inside,
      start_is (goal.at.slice_bounds-copy-end c).After-low32,
      long_is (goal.at.slice_bounds-copy-end c).After-high32-long,
    )

pub copy-requires : goal.copy-requires
copy-requires c =
    let w = fits (goal.at.copy-requires c).Else-kind_of-eq-NULL in
    omega (
      arith,
      c.requires.formed.1,
      w.fits.short,
      w.fits.there.long,
      ap length (body_part _ _ w.fits.there (start_is (goal.at.copy-requires c).After-low32)
          (long_is (goal.at.copy-requires c).After-high32-long)),
      c.store.auto.s,
    )

-- where the zeros begin
pub overflow_add-base-3 : goal.overflow_add-base-3
overflow_add-base-3 c =
    omega (
      arith,
      (fits (goal.at.overflow_add-base-3 c).Else-kind_of-eq-NULL).fits.short,
      long_is (goal.at.overflow_add-base-3 c).After-high32-long,
    )

pub overflow_sub-capacity : goal.overflow_sub-capacity
overflow_sub-capacity c =
    omega (
      arith,
      (fits (goal.at.overflow_sub-capacity c).Else-kind_of-eq-NULL).fits.short,
      long_is (goal.at.overflow_sub-capacity c).After-high32-long,
    )

pub clear-requires : goal.clear-requires
clear-requires c =
    omega (
      arith,
      c.requires.formed.1,
      (fits (goal.at.clear-requires c).Else-kind_of-eq-NULL).fits.short,
      long_is (goal.at.clear-requires c).After-high32-long,
      c.copy.auto.out,
      c.store.auto.s,
    )

pub overflow_add-result-2 : goal.overflow_add-result-2
overflow_add-result-2 c =
    omega (
      arith,
      (there (goal.at.overflow_add-result-2 c).Start).inside,
      few_entries c.args.s.now c.requires.formed.0,
    )

pub returns : goal.returns
returns c =
    let w = fits (goal.at.returns c).Else-kind_of-eq-NULL in
    text_set w.entry c.args.capacity c.args.base w.fits (start_is (goal.at.returns c).After-low32)
    (long_is (goal.at.returns c).After-high32-long)
    (c.high32.ensures ∙ ap (λ (x : ℕ). x / 2 ^ 32) c.payload_of-x.ensures)
    refl c.requires.formed.1 c.store.ensures c.copy.ensures c.clear.ensures
