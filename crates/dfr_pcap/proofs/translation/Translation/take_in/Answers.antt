use Rattle.std.proofs.Common.{◌∙◌, ap, sym}
use Rattle.dfr_pcap.specs.Translations.{TranslationParts}
use Rattle.dfr_pcap.proofs.Translated.{classic_any}
use Rattle.dfr_pcap.proofs.translation.Translation.take_in.Goals as goal

pub returns-in-Classic-clause-takes : goal.returns-in-Classic-clause-takes
returns-in-Classic-clause-takes g c =
    classic_any c.args.piece.now c.pass_on.result c.args.self.now c.args.out.now.items c.pass_on.new.out.items
    (ap (λ (t : TranslationParts). t.form) (sym c.self.view_is) ∙ c.in-Classic.is) c.pass_on.ensures
