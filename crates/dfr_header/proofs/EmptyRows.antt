-- Rows are counted one by one.
use Rattle.std.proofs.Common.{◌≡◌, ℕ, zero, suc, ◌+◌, ◌-◌, ◌<◌, ◌≤◌, List, ◌++◌, length, take, drop, Bool, true, false, nat_lt, refl, arith}
use Rattle.std.specs.Prelude.{if◌then◌else◌}
use Rattle.std.specs.List.{repeat}
use Rattle.std.proofs.lemmas.Bool.Decides.{nat_tests}
use Rattle.dfr_header.specs.Rows.{is_empty_row, empty_rows}

-- where no row is whole, none is counted
pub no_row : (size : ℕ) (missing bytes : List ℕ) (n : ℕ) → length bytes < size → empty_rows size missing bytes n ≡ 0
no_row size missing bytes zero h = refl
no_row size missing bytes (suc n) h =
    let t : nat_lt (length bytes) size ≡ true = grind (arith, nat_tests, h) in
    rw t refl

-- of the rows that are left, the first one is counted
pub one_row : (size : ℕ) (missing bytes : List ℕ) (n i : ℕ) → i < n → size ≤ length bytes
    → empty_rows size missing bytes (n - i) ≡ (if is_empty_row missing (take size bytes) then 1 else 0) + empty_rows size missing (drop size bytes) (n - (i + 1))
one_row size missing bytes n i h l =
    let e : n - i ≡ suc (n - (i + 1)) = omega arith in
    let t : nat_lt (length bytes) size ≡ false = grind (arith, nat_tests, l) in
    rw (e, t) refl

-- of what is repeated, the first one comes off
pub one_off : (one : List ℕ) (n i : ℕ) → i < n → repeat (n - i) one ≡ one ++ repeat (n - (i + 1)) one
one_off one n i h =
    let e : n - i ≡ suc (n - (i + 1)) = omega arith in
    rw e refl
