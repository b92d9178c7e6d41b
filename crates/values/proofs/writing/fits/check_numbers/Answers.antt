-- `values::fits::check_numbers` meets its contract: up to `count` atomics or nulls, and the close (document 01,
-- "Writing"). The loop knows the atomic by its limits alone.
use native.Mathlib.Omega.{arith}
use mathlib.Core.Path.{◌≡◌, refl}
use Rattle.std.specs.Prelude.{Option}
use Rattle.types.specs.declared.atomics.atomic.Atomic.{Atomic}
use Rattle.values.specs.declared.writing.limits.Misfit.{Misfit}
use Rattle.values.specs.inside.writing.Effects.{atomic_takes}
use Rattle.values.specs.inside.writing.Limits.{limits_of, misfit}
use Rattle.values.specs.writing.Effects.{or_null}
use Rattle.values.proofs.writing.fits.FitRunLaws.{Judging, NextFits, asked, next_closes, next_low}
use Rattle.values.proofs.writing.fits.FitRunLaws.{number_on, number_refused, walked_done, walked_start}
use Rattle.values.proofs.writing.fits.check_numbers.Goals as goal
use Rattle.values.proofs.writing.fits.check_numbers.Goals.{After-kind_of-kind, After-payload_of}

pub loop-p-init : goal.loop-p-init
loop-p-init c a e = walked_start (or_null (atomic_takes a)) c.args.count c.requires.0 c.requires.1

pub kind_of-kind-requires : goal.kind_of-kind-requires
kind_of-kind-requires c = asked c.requires.0 (omega (arith, c.after-last.ensures, c.loop-p-test.true))

pub payload_of-requires : goal.payload_of-requires
payload_of-requires c = asked c.requires.0 (omega (arith, c.after-last.ensures, c.loop-p-test.true))

-- the entry at hand, for every atomic of these limits
next : (c : After-kind_of-kind)
    → let args = c.args in
    (a : Atomic) → c.limits_of-limits.result ≡ limits_of a
    → NextFits args.s.now (or_null (atomic_takes a)) args.n args.count args.k c.after-last.result
    c.loop-p.p c.kind_of-kind.result
next c a e =
    record {
      told = c.requires.0;
      walked = c.loop-p.invariant a e;
      ends = c.after-last.ensures;
      before = c.loop-p-test.true;
      shows = c.kind_of-kind.ensures;
    }

-- and what they say of it
judging : (c : After-payload_of) (a : Atomic) (r : Option Misfit) → c.limits_of-limits.result ≡ limits_of a
    → r ≡ misfit c.limits_of-limits.result c.kind_of-kind.result c.payload_of.result
    → Judging c.args.s.now a c.limits_of-limits.result c.loop-p.p c.kind_of-kind.result c.payload_of.result r
judging c a r e j =
    record { bytes = λ k. (c.type_inv.s k).fits; limits = e; payload = c.payload_of.ensures; judges = j }

pub returns-then-kind-eq-ARRAY_CLOSE : goal.returns-then-kind-eq-ARRAY_CLOSE
returns-then-kind-eq-ARRAY_CLOSE c =
    next_closes (next (goal.at.returns-then-kind-eq-ARRAY_CLOSE c).After-kind_of-kind c.args.a
    c.limits_of-limits.ensures) c.if-kind-eq-ARRAY_CLOSE.true

pub at-requires : goal.at-requires
at-requires c =
    omega (arith, next_low (next (goal.at.at-requires c).After-kind_of-kind c.args.a c.limits_of-limits.ensures))

pub returns-in-Some : goal.returns-in-Some
returns-in-Some c =
    number_refused (next (goal.at.returns-in-Some c).After-kind_of-kind c.args.a c.limits_of-limits.ensures)
    (judging (goal.at.returns-in-Some c).After-payload_of c.args.a _ c.limits_of-limits.ensures c.in-Some.ensures)
    refl c.if-kind-eq-ARRAY_CLOSE.false c.at.ensures.0 c.at.ensures.1

pub loop-p-preserved : goal.loop-p-preserved
loop-p-preserved c a e =
    number_on (next (goal.at.loop-p-preserved c).After-kind_of-kind a e)
    (judging (goal.at.loop-p-preserved c).After-payload_of a _ e c.judge.ensures) c.in_default.is

pub returns : goal.returns
returns c =
    walked_done (c.loop-p.invariant c.args.a c.limits_of-limits.ensures) c.after-last.ensures
    (omega (arith, c.after-last.ensures, c.requires.1)) c.close_at.ensures
