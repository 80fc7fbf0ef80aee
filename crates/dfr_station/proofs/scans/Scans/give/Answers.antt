use Rattle.std.proofs.Common.{rules, ◌≡◌, List, Bool, refl, inl, inr, subst}
use Rattle.dfr_channels.specs.Parts.{ScanParts}
use Rattle.dfr_live.specs.declared.station.Fed.{Fed}
use Rattle.dfr_live.specs.declared.station.Fed.TheVariants as fed
use Rattle.dfr_station.specs.Acquiring.{ScansParts, GivesLost, GivesScan}
use Rattle.dfr_station.proofs.scans.Scans.give.Goals as goal

lost_instead : {A : Type 0} (s : ScansParts) (scan : ScanParts) (f : Fed A) (t : ScansParts) (m : List Bool)
    → GivesLost {A = A} (record s { noted = m }) f t → GivesScan s scan f t
lost_instead s scan (fed.Scan x) t m h = inr (m, h)
lost_instead s scan fed.Lost t m h = (m, h)
lost_instead s scan fed.NotYet t m h = h
lost_instead s scan fed.Done t m h = h

lost_from : {A : Type 0} (s u : ScansParts) (scan : ScanParts) (f : Fed A) (t : ScansParts) (m : List Bool)
    → u ≡ record s { noted = m } → GivesLost {A = A} u f t → GivesScan s scan f t
lost_from {A} s u scan f t m e h = lost_instead s scan f t m (subst (λ (x : ScansParts). GivesLost {A = A} x f t) e h)

pub returns-then-is_err : goal.returns-then-is_err
returns-then-is_err g c =
    lost_from c.args.self.now _ c.args.scan c.lose.result c.lose.new.self c.note.new.self.next.items
    (rw (← c.self.view_is, c.note.ensures.kept) refl) c.lose.ensures

pub returns-in_default : goal.returns-in_default
returns-in_default g c =
    lost_from c.args.self.now _ c.args.scan c.lose-in_default.result c.lose-in_default.new.self c.note.new.self.next.items
    (rw (← c.self.view_is, c.note.ensures.kept, c.in_default.ensures.err) refl) c.lose-in_default.ensures

pub returns : goal.returns
returns g c = inl (search rules)
