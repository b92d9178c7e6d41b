-- `types::measure_one` meets its contract.
use Rattle.std.specs.Prelude.{Ok}
use Rattle.std.proofs.lemmas.Result.{err_from_is_err_and}
use mathlib.Core.Path.{ap, ◌∙◌}
use Rattle.types.specs.layout.HostNames.{host_name}
use Rattle.types.proofs.layout.MeasureLaws.{one_hosted, one_alone, one_fault}
use Rattle.types.proofs.layout.measure.measure_one.Goals as goal

pub returns-in_err-next : goal.returns-in_err-next
returns-in_err-next c =
    let p = err_from_is_err_and c.from_residual.result c.from_residual.ensures.1 in
    rw (p.1, p.2)
    (one_fault (host_name c.args.name.now) c.args.c c.args.names c.args.d c.place.ensures _ c.in_err-next.was)

pub returns-in-Hosted : goal.returns-in-Hosted
returns-in-Hosted c =
    one_hosted (host_name c.args.name.now) c.args.c c.args.names c.args.d c.place.ensures
    (c.in_ok-next.was ∙ ap Ok c.in-Hosted.is) c.host_long.ensures.is

pub returns-in-One : goal.returns-in-One
returns-in-One c =
    one_alone (host_name c.args.name.now) c.args.c c.args.names c.args.d c.place.ensures
    (c.in_ok-next.was ∙ ap Ok c.in-One.is)
