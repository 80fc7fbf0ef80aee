-- When a packet of a block came.
use Rattle.std.specs.Prelude.{ℕ, ◌+◌, ◌-◌, ◌*◌, ◌/◌, ◌%◌, ◌^◌, nat_lt, Option, Some, None, Result, Ok, Err, if◌then◌else◌}
use Rattle.dfr_pcap.specs.declared.flaw.Flaw.{Flaw}
use Rattle.dfr_pcap.specs.declared.flaw.Flaw.TheVariants as flaws
use Rattle.dfr_pcap.specs.declared.moment.Interface.{Interface}
use Rattle.dfr_pcap.specs.declared.moment.Moment.{Moment}

-- ticks in a second: a power of ten, or from 128 on of two, below 2^64
abbrev pub fitting : ℕ → Option ℕ
fitting n = if nat_lt n (2 ^ 64) then Some n else None

abbrev pub ticks_of : (resolution : ℕ) → Option ℕ
ticks_of r = if nat_lt r 128 then fitting (10 ^ r) else fitting (2 ^ (r - 128))

-- counted from so many seconds after 1970; from 2^63 on the seconds are less by 2^64
unfoldable pub moved : (nanoseconds offset : ℕ) → Option ℕ
moved n offset =
    if nat_lt offset (2 ^ 63) then Some (n + offset * 1_000_000_000)
    else if nat_lt n ((2 ^ 64 - offset) * 1_000_000_000) then None
    else Some (n - (2 ^ 64 - offset) * 1_000_000_000)

-- seconds below 2^32, and nanoseconds
unfoldable pub split : (nanoseconds : ℕ) → Result Moment Flaw
split n =
    if nat_lt (n / 1_000_000_000) (2 ^ 32)
    then Ok (record { seconds = n / 1_000_000_000; nanoseconds = n % 1_000_000_000 })
    else Err flaws.Time

abbrev pub split_some : Option ℕ → Result Moment Flaw
split_some None = Err flaws.Time
split_some (Some n) = split n

-- what is less than a nanosecond counts as nothing
abbrev pub in_ticks : (offset stamp : ℕ) → Option ℕ → Result Moment Flaw
in_ticks offset stamp None = Err flaws.Resolution
in_ticks offset stamp (Some ticks) = split_some (moved (stamp * 1_000_000_000 / ticks) offset)

-- when a packet with this time came
unfoldable pub moment_of : Interface → (stamp : ℕ) → Result Moment Flaw
moment_of i stamp = in_ticks i.offset stamp (ticks_of i.resolution)
