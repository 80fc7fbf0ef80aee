use Rattle.std.proofs.Common.{refl, sym}
use Rattle.std.proofs.lemmas.Option.{slice_get_read}
use Rattle.dfr_setup.proofs.Made.{with_word_found, makes_by}
use Rattle.dfr_setup.proofs.addend.Sum.add_word.Goals as goal

pub returns-in-Some : goal.returns-in-Some
returns-in-Some g c =
    let named = c.in-Some.ensures in
    makes_by _ _ _ _
    (with_word_found c.args.channels.now c.args.test c.args.self.now c.args.word.now c.in-Some.i c.index-channels-i.result (sym named.value)
    (slice_get_read c.args.channels.now _ c.in-Some.i c.index-channels-i.result refl named.bound c.index-channels-i.is))
    c.add.ensures
