-- `values::check_text` meets its contract: null, a text, or what is none.
use Prim.Native.Nat.{◌/◌, ◌^◌}
use native.Mathlib.Omega.{arith}
use mathlib.Core.Path.{◌≡◌, refl, sym, ap, ◌∙◌}
use lib.ListN.{length}
use Rattle.values.specs.stream.Stream.{body_of, kind_of}
use Rattle.values.specs.writing.Effects.{as_text, or_null}
use Rattle.values.proofs.stream.LeftLaws.{EntryThere, by_kind, kind_there}
use Rattle.values.proofs.writing.FitLaws.{no_text, text_fits, text_long, text_null}
use Rattle.values.proofs.writing.StepLaws.{one_judged, one_refused}
use Rattle.values.proofs.writing.fits.FitRunLaws.{few}
use Rattle.values.proofs.writing.fits.check_text.Goals as goal
use Rattle.values.proofs.writing.fits.check_text.Goals.{After-high32, In-0, In-6}

-- the null
null_here : (c : In-0) → EntryThere c.args.s.now c.args.k
null_here c =
    by_kind _ _ c.requires.0.form (λ h. let z : ⊥ = omega (arith, h, c.in-0.is, c.kind_at.ensures) in z)

-- the text, its kind and its length
text_here : (c : In-6) → EntryThere c.args.s.now c.args.k
text_here c =
    by_kind _ _ c.requires.0.form (λ h. let z : ⊥ = omega (arith, h, c.in-6.is, c.kind_at.ensures) in z)

text_kind : (c : In-6) → kind_of (text_here c).token ≡ 6
text_kind c = sym (kind_there (text_here c)) ∙ sym c.kind_at.ensures ∙ c.in-6.is

text_length : (c : After-high32) (e : EntryThere c.args.s.now c.args.k) → kind_of e.token ≡ 6
    → length (body_of e.token) ≡ c.high32.result
text_length c e k = (e.text k).long ∙ sym (c.high32.ensures ∙ ap (λ x. x / 2 ^ 32) c.payload_of.ensures)

pub overflow_add-result : goal.overflow_add-result
overflow_add-result c = omega (arith, few c.requires.0, c.requires.1)

pub returns-in-0 : goal.returns-in-0
returns-in-0 c w p =
    let e = null_here (goal.at.returns-in-0 c).In-0 in
    one_judged c.requires.0.form (or_null (as_text c.args.capacity)) w p e
    (text_null c.args.capacity e.token (sym (kind_there e) ∙ sym c.kind_at.ensures ∙ c.in-0.is))

pub payload_of-requires : goal.payload_of-requires
payload_of-requires c = (c.requires.0.form, (text_here (goal.at.payload_of-requires c).In-6).inside)

pub overflow_add-result-then-high32-capacity : goal.overflow_add-result-then-high32-capacity
overflow_add-result-then-high32-capacity c = omega (arith, few c.requires.0, c.requires.1)

pub returns-then-high32-capacity : goal.returns-then-high32-capacity
returns-then-high32-capacity c w p =
    let there = (goal.at.returns-then-high32-capacity c).In-6 in
    let e = text_here there in
    let long = text_length (goal.at.returns-then-high32-capacity c).After-high32 e (text_kind there) in
    one_judged c.requires.0.form (or_null (as_text c.args.capacity)) w p e
    (text_fits c.args.capacity e.token (text_kind there) (omega (arith, c.if-high32-capacity.true, long)))

pub overflow_cast-result : goal.overflow_cast-result
overflow_cast-result c = omega (arith, few c.requires.0, c.requires.1)

pub returns-else-high32-capacity : goal.returns-else-high32-capacity
returns-else-high32-capacity c w p =
    let there = (goal.at.returns-else-high32-capacity c).In-6 in
    let e = text_here there in
    let long = text_length (goal.at.returns-else-high32-capacity c).After-high32 e (text_kind there) in
    one_refused c.requires.0.form (or_null (as_text c.args.capacity)) w p e
    (text_long c.args.capacity e.token (text_kind there) (omega (arith, c.if-high32-capacity.false, long))) refl

pub overflow_cast-result-in_default : goal.overflow_cast-result-in_default
overflow_cast-result-in_default c = omega (arith, few c.requires.0, c.requires.1)

pub returns-in_default : goal.returns-in_default
returns-in_default c w p =
    no_text c.args.capacity w p c.requires.0.form (omega (arith, c.requires.0.count, c.requires.1))
    (λ h. let z : ⊥ = omega (arith, h, c.kind_at.ensures) in z)
    (λ h. let z : ⊥ = omega (arith, h, c.kind_at.ensures) in z)
