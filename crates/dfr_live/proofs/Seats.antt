-- The tokens of a run, one for each seat.
use Rattle.std.proofs.Common.{◌≡◌, ℕ, zero, suc, ◌<◌, List, [], ◌∷◌, refl, arith}
use Rattle.std.specs.Prelude.{◌==◌, count_by}
use Rattle.dfr_live.specs.Seen.{InnerParts, TokenParts}
use Rattle.dfr_live.specs.declared.ended.EndFault.{EndFault}
use Rattle.dfr_live.specs.declared.ended.EndFault.TheVariants as unended
use Rattle.dfr_live.specs.Ends.{EachSeatOnce, FaultSays}
use Rattle.dfr_live.specs.Causes.{HasTokens}

-- of two tokens, of the seats 0 and 1, each seat has one
seat_once : (a b : TokenParts) → a.seat ≡ 0 → b.seat ≡ 1 → (k : ℕ) → k < 2 → count_by (λ (t : TokenParts). t.seat == k) (a ∷ b ∷ []) ≡ 1
seat_once a b first second zero lt = rw (first, second) refl
seat_once a b first second (suc zero) lt = rw (first, second) refl
seat_once a b first second (suc (suc k)) lt = absurd (omega (arith, lt))

pub two_seats : (seats : ℕ) (tokens : List TokenParts) (a b : TokenParts) → seats ≡ 2 → tokens ≡ a ∷ b ∷ []
    → a.seat ≡ 0 → b.seat ≡ 1 → EachSeatOnce seats tokens
two_seats seats tokens a b two all first second = rw (two, all) (refl, seat_once a b first second)

-- whose end is refused, it isn't for its tokens
pub has_tokens : (x : InnerParts) (tokens : List TokenParts) (why : EndFault) → EachSeatOnce x.seats tokens → FaultSays x tokens why → HasTokens why
has_tokens x tokens unended.Tokens once says = says once
has_tokens x tokens unended.Mismatch once says = tt
has_tokens x tokens unended.Memory once says = tt
