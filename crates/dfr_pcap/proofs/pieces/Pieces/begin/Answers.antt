use Rattle.std.proofs.Common.{rules, ◌∙◌, ap, ℕ, List}
use Rattle.dfr_pcap.specs.Pieces.{head_of}
use Rattle.dfr_pcap.proofs.Begins.{to_the_end, begun_view}
use Rattle.dfr_pcap.proofs.pieces.Pieces.begin.Goals as goal

pub returns-in-Some : goal.returns-in-Some
returns-in-Some g c =
    let i = c.self.inside in
    begun_view i.capture i.passed i.at i.bytes.items c.in-Some.capture c.args.self.now c.self.view_is (search rules)
    (c.in-Some.ensures.value ∙ ap (λ (b : List ℕ). head_of b) (to_the_end _ _ i.at c.deref.ensures.value))
