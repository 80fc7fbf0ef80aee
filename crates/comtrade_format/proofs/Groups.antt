-- One group of bits more in a slot.
use Rattle.std.proofs.Common.{◌≡◌, ℕ, ◌+◌, ◌*◌, ◌≤◌, Bool, List, ◌++◌, length, take, length-append, append-nil, append_assoc, zero-add, refl, sym, ap, ◌∙◌}
use Rattle.std.proofs.lemmas.Grind.{flat_map-append}
use Rattle.std.proofs.lemmas.List.{length-take-le, take_at}
use Rattle.std.specs.List.{flat_map, range_with_len}
use Rattle.comtrade_format.specs.Binary.{group_bytes}
use Rattle.comtrade_format.proofs.Bits.{range_more}

pub group_step : (bits : List Bool) (dst bs rest post : List ℕ) (i : ℕ) → 2 * i ≤ length dst → length bs ≡ 2 → bs ≡ group_bytes bits i
    → take (2 * i) dst ≡ flat_map (group_bytes bits) (range_with_len 0 i)
    → take (2 * i + 2) (take (2 * i) dst ++ ((bs ++ rest) ++ post)) ≡ flat_map (group_bytes bits) (range_with_len 0 (i + 1))
group_step bits dst bs rest post i room len eb before =
    let front : List ℕ = take (2 * i) dst in
    let lf : length front ≡ 2 * i = length-take-le (2 * i) dst room in
    let whole : front ++ ((bs ++ rest) ++ post) ≡ (front ++ bs) ++ (rest ++ post) =
    ap (λ (r : List ℕ). front ++ r) (append_assoc bs rest post) ∙ sym (append_assoc front bs (rest ++ post)) in
    let lw : length (front ++ bs) ≡ 2 * i + 2 = length-append front bs ∙ rw (lf, len) refl in
    rw (whole, take_at (front ++ bs) (rest ++ post) (2 * i + 2) lw, before, eb, range_more 0 i, zero-add i, flat_map-append, append-nil) refl
