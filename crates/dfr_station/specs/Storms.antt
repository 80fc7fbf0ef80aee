-- A limit on the records of an hour: how many pairs of one hour a store takes.
use Rattle.std.specs.Prelude.{◌≡◌, ◌⊎◌, ℕ, ◌+◌, ◌-◌, ◌*◌, ◌/◌, ◌^◌, ◌==◌, ◌≤◌, min, ⊤, nat_lt, Bool, true, false, if◌then◌else◌, List, [], ◌∷◌, Option, Some, None, Result, Ok, Err}
use Rattle.dfr_station.specs.Storing.{StoresOf}
use Rattle.dfr_station.specs.declared.event.Trouble.{Trouble}
use Rattle.dfr_station.specs.declared.event.Trouble.TheVariants as trouble
use Rattle.dfr_folder.specs.declared.name.Key.{Key}
use Rattle.dfr_station.specs.declared.limited.HourLimit.{HourLimit}
use Rattle.dfr_station.specs.declared.limited.Limited.{Limited}
use Rattle.dfr_station.specs.declared.station.Stored.{Stored}

-- the hour of a record's trigger, as yyyymmddhh
abbrev pub hour_of : Key → ℕ
hour_of key = key.date * 100 + key.time / 10_000

-- Of pairs that were stored, the newest first, given by their hours: how many of the newest ones in a row are of this hour. Where the
-- hours are in order, these are all pairs of it.
abbrev pub row : ℕ → List ℕ → ℕ
row hour [] = 0
row hour (newest ∷ hours) = if newest == hour then row hour hours + 1 else 0

-- how many pairs of this hour were stored in a row
abbrev pub row_in : HourLimit → ℕ → ℕ
row_in l hour = if l.hour == hour then l.count else 0

abbrev pub is_below : Option ℕ → ℕ → Bool
is_below None count = true
is_below (Some most) count = nat_lt count most

-- a pair of this hour may be stored after these: fewer than `most` of its hour were
abbrev pub may_store : Option ℕ → ℕ → List ℕ → Bool
may_store most hour hours = is_below most (row hour hours)

-- ---- a law: so many pairs of each hour

-- each pair was one that may be stored after those before it
abbrev pub Admitted : ℕ → List ℕ → Type 0
Admitted most [] = ⊤
Admitted most (hour ∷ hours) = (may_store (Some most) hour hours ≡ true) × Admitted most hours

-- no pair is of an hour after this one
abbrev pub NoneAfter : ℕ → List ℕ → Type 0
NoneAfter hour [] = ⊤
NoneAfter hour (newest ∷ hours) = (newest ≤ hour) × NoneAfter hour hours

-- no pair is of an earlier hour than one before it
abbrev pub InOrder : List ℕ → Type 0
InOrder [] = ⊤
InOrder (newest ∷ hours) = NoneAfter newest hours × InOrder hours

-- how many pairs are of this hour
abbrev pub pairs_of : ℕ → List ℕ → ℕ
pairs_of hour [] = 0
pairs_of hour (newest ∷ hours) = if newest == hour then pairs_of hour hours + 1 else pairs_of hour hours

-- Where each pair was admitted and the hours are in order, no hour has more than `most` pairs.
abbrev pub MostLaw : Type 0
MostLaw = (most : ℕ) (hours : List ℕ) → Admitted most hours → InOrder hours → (hour : ℕ) → pairs_of hour hours ≤ most

-- ---- what a limit keeps of them

-- so many pairs of that hour were stored in a row, as these hours say; the count stops at the greatest `u64`
abbrev pub IsLimitOf : List ℕ → HourLimit → Type 0
IsLimitOf hours l = (hour : ℕ) → min (row hour hours) (2 ^ 64 - 1) ≡ row_in l hour

-- whether a pair of this hour may be stored
abbrev pub admits : HourLimit → ℕ → Bool
admits l hour = is_below l.most (row_in l hour)

-- a pair of this hour was stored
abbrev pub noted : HourLimit → ℕ → HourLimit
noted l hour = record l { hour = hour; count = min (row_in l hour + 1) (2 ^ 64 - 1) }

abbrev pub noted_if : Result Stored Trouble → HourLimit → ℕ → HourLimit
noted_if (Ok stored) l hour = noted l hour
noted_if (Err why) l hour = l

-- A pair goes to the store behind the limit, if one more of its hour may be stored; else it is refused for the storm.
abbrev pub LimitedPut : {K : Type 0} → StoresOf K → Limited K → Key → List ℕ → List ℕ → Result Stored Trouble → Limited K → Type 0
LimitedPut Stores s key cfg dat r t =
    ((admits s.limit (hour_of key) ≡ false) × (r ≡ Err trouble.Storm) × (t ≡ s))
    ⊎ ((admits s.limit (hour_of key) ≡ true) × Stores s.store key cfg dat r t.store × (t.limit ≡ noted_if r s.limit (hour_of key)))
