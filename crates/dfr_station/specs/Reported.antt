-- Losses that wait to be reported, those of each reason together.
use Rattle.std.specs.Prelude.{◌≡◌, ℕ, ◌+◌, ◌-◌, ◌^◌, ◌==◌, min, Bool, List, [], ◌∷◌, Option, Some, None}
use Rattle.dfr_station.specs.declared.intake.feed.Why.{Why}
use Rattle.dfr_station.specs.declared.intake.feed.Why.TheVariants as why
use Rattle.dfr_station.specs.declared.losses.Losses.{Losses}
use Rattle.dfr_station.specs.declared.losses.Pending.{Pending}

-- losses and later ones of their reason, as one range; the count stops at the greatest `u64`
abbrev pub joined : Option Losses → Losses → Losses
joined None later = later
joined (Some before) later = record before { last = later.last; count = min (before.count + later.count) (2 ^ 64 - 1) }

-- those of this reason that wait
abbrev pub waiting : Pending → Why → Option Losses
waiting p why.Told = p.told
waiting p why.Unread = p.unread
waiting p why.Shape = p.shape
waiting p (why.Range channel) = p.range
waiting p why.Full = p.full
waiting p why.Memory = p.memory
waiting p why.Counted = p.counted
waiting p why.Silent = p.silent

abbrev number_of : Why → ℕ
number_of why.Told = 0
number_of why.Unread = 1
number_of why.Shape = 2
number_of (why.Range channel) = 3
number_of why.Full = 4
number_of why.Memory = 5
number_of why.Counted = 6
number_of why.Silent = 7

-- the same reason, whatever the channel
abbrev pub is_alike : Why → Why → Bool
is_alike a b = number_of a == number_of b

-- those of all reasons, in the order in which they are taken
abbrev pub all_of : Pending → List (Option Losses)
all_of p = p.told ∷ p.unread ∷ p.shape ∷ p.range ∷ p.full ∷ p.memory ∷ p.counted ∷ p.silent ∷ []

-- the first of these that wait are taken, and all others still wait
abbrev pub Takes : List (Option Losses) → Option Losses → List (Option Losses) → Type 0
Takes [] taken left = (taken ≡ None) × (left ≡ [])
Takes (None ∷ losses) taken left = (rest : List (Option Losses)) × (left ≡ None ∷ rest) × Takes losses taken rest
Takes (Some first ∷ losses) taken left = (taken ≡ Some first) × (left ≡ None ∷ losses)
