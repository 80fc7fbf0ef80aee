-- Parts of the bytes of BINARY data.
use Rattle.std.proofs.Common.{◌≡◌, ℕ, ◌+◌, ◌-◌, ◌*◌, ◌<◌, ◌≤◌, List, length, take, drop, arith, length-drop}
use Rattle.std.proofs.Math.Nat.{mul-le-mul_right}
use Rattle.std.proofs.lemmas.List.{take_all}

pub part_is : (o : ℕ) (bytes : List ℕ) → take (length bytes - o) (drop o bytes) ≡ drop o bytes
part_is o bytes = take_all (length bytes - o) (drop o bytes) (omega (arith, length-drop o bytes))

-- part i of so many of one size
pub part_there : (i count size : ℕ) (bytes : List ℕ) → i < count → length bytes ≡ count * size → size ≤ length (take (length bytes - i * size) (drop (i * size) bytes))
part_there i count size bytes lt all =
    let next : (i + 1) * size ≤ count * size = mul-le-mul_right size (omega arith) in
    rw (part_is (i * size) bytes) (omega (arith, length-drop (i * size) bytes))
