use Rattle.comtrade_values.specs.Lines.{texts}
use Rattle.dfr_plan.proofs.Sources.{makes_by, source_by}
use Rattle.dfr_plan.proofs.stream.add_source.Goals as goal

pub returns : goal.returns
returns g c =
    makes_by _ _ _ _
    (source_by c.args.draft.now (texts c.args.fields.now) c.in_ok-app.app c.in_ok-mac.mac c.field_at.result.now c.field_at-2.result.now c.address_of.result
    c.field_at.ensures c.in_ok-app.ensures c.field_at-2.ensures c.address_of.ensures c.in_ok-mac.ensures)
    c.put_source.ensures
