use Rattle.std.proofs.Common.{◌≡◌, ℕ, ◌+◌, ◌-◌, ◌≤◌, List, length, take, drop, sym, ap, ◌∙◌, arith}
use Rattle.std.proofs.lemmas.List.{drop-take, drop-drop, length-take}
use Rattle.dfr_station.proofs.intake.buffer.Buffer.use_up.Goals as goal

-- a part of a list, without its first elements
later_part : (from end count : ℕ) (bytes : List ℕ) → count ≤ length (take (end - from) (drop from bytes)) → take (end - (from + count)) (drop (from + count) bytes) ≡ drop count (take (end - from) (drop from bytes))
later_part from end count bytes few =
    let e : end - from ≡ count + (end - (from + count)) = omega (arith, length-take (end - from) (drop from bytes)) in
    rw e (sym (drop-take count (end - (from + count)) (drop from bytes) ∙ ap (take (end - (from + count))) (drop-drop count from bytes)))

pub returns : goal.returns
returns g c =
    let b = c.self.inside in
    let few = rw (← c.self.view_is) at c.requires in
    rw (← c.self.view_is) (later_part b.from b.end c.args.count b.bytes.items few)
