use Rattle.std.proofs.Common.{◌≡◌, ◌∙◌, sym, subst, List, ℕ}
use Rattle.comtrade_read.specs.Reads.{Reads}
use Rattle.comtrade_diagnostics.proofs.importing.is_as_given.Goals as goal

pub returns-in-Ok-written_of : goal.returns-in-Ok-written_of
returns-in-Ok-written_of g c = λ same file reads.
    let done = c.args.done.now in
    let here : Reads done.cfg.items c.in-Ok-written_of.pair.dat.items c.in-Ok.file =
    subst (λ (xs : List ℕ). Reads xs c.in-Ok-written_of.pair.dat.items c.in-Ok.file) (c.are_same.ensures.cfg same) c.in-Ok-written_of.ensures.reads in
    let both : Reads done.cfg.items done.dat.items c.in-Ok.file =
    subst (λ (xs : List ℕ). Reads done.cfg.items xs c.in-Ok.file) (c.are_same.ensures.dat same) here in
    c.one_file.ensures.file c.args.cfg.now c.args.dat.now file c.in-Ok.file reads c.in-Ok.ensures.found
    ∙ c.one_file.ensures.file done.cfg.items done.dat.items c.in-Ok.file done.file both c.requires
