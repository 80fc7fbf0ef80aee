-- The fault type that the changes of three phases have.
use Rattle.std.specs.Prelude.{ℕ, ◌*◌, ◌==◌, max, min, Bool, true, false, not, ◌&&◌, ◌||◌, nat_lt, nat_le, if◌then◌else◌, Option, Some, None}
use Rattle.comtrade_fault.specs.declared.sizes.Changes.{Changes}
use Rattle.comtrade_fault.specs.declared.ends.Ends.{Ends}
use Rattle.comtrade_fault.specs.declared.types.FaultType.{FaultType}
use Rattle.comtrade_fault.specs.declared.types.FaultType.TheVariants.{AG, BG, CG, AB, BC, CA, ABG, BCG, CAG, ABC, ABCG}

-- of the differences of two phases
abbrev pub least : Changes → ℕ
least d = min (min d.ab d.bc) d.ca

abbrev pub greatest : Changes → ℕ
greatest d = max (max d.ab d.bc) d.ca

-- two phases change alike: their difference is below a quarter of the greatest one
abbrev pub is_single : Changes → Bool
is_single d = nat_lt (4 * least d) (greatest d)

-- all differences are over three quarters of the greatest one
abbrev pub is_threefold : Changes → Bool
is_threefold d = nat_lt (3 * greatest d) (4 * least d)

-- the sum of the phases is a twenty-fourth of the greatest difference or more
abbrev pub has_earth : Changes → Bool
has_earth d = nat_le (greatest d) (24 * d.earth)

abbrev pub single : Changes → FaultType
single d = if d.bc == least d then AG else if d.ca == least d then BG else CG

abbrev pub double : Changes → FaultType
double d =
    if d.ab == greatest d then (if has_earth d then ABG else AB)
    else if d.bc == greatest d then (if has_earth d then BCG else BC)
    else if has_earth d then CAG
    else CA

unfoldable pub fault_type : Changes → FaultType
fault_type d = if is_single d then single d else if is_threefold d then (if has_earth d then ABCG else ABC) else double d

-- the sum of the phases is a forty-eighth to a sixteenth of the greatest difference
abbrev pub is_earth_near : Changes → Bool
is_earth_near d = nat_le (greatest d) (48 * d.earth) && nat_lt (16 * d.earth) (greatest d)

-- a ratio that decides is near its bound: the least difference is over a seventh of the greatest, or a single phase has little earth; over 13 twentieths or
-- below a third, or below 17 twentieths of three phases
unfoldable pub is_near : Changes → Bool
is_near d =
    if is_single d then (nat_lt (greatest d) (7 * least d) || nat_lt (4 * d.earth) (greatest d))
    else if is_threefold d then (nat_lt (20 * least d) (17 * greatest d) || is_earth_near d)
    else (nat_lt (3 * least d) (greatest d) || nat_lt (13 * greatest d) (20 * least d) || is_earth_near d)

abbrev pub of_three : FaultType → Bool
of_three ABC = true
of_three ABCG = true
of_three other = false

abbrev pub to_earth : FaultType → Bool
to_earth AB = false
to_earth BC = false
to_earth CA = false
to_earth ABC = false
to_earth other = true

-- the later of two rows, where there are both
abbrev pub later : Option ℕ → Option ℕ → Option ℕ
later (Some one) (Some other) = Some (max one other)
later (Some one) None = None
later None other = None

-- the last end of the phases that take part
unfoldable pub last_end : FaultType → Ends → Option ℕ
last_end AG ends = ends.a
last_end BG ends = ends.b
last_end CG ends = ends.c
last_end AB ends = later ends.a ends.b
last_end ABG ends = later ends.a ends.b
last_end BC ends = later ends.b ends.c
last_end BCG ends = later ends.b ends.c
last_end CA ends = later ends.c ends.a
last_end CAG ends = later ends.c ends.a
last_end ABC ends = later (later ends.a ends.b) ends.c
last_end ABCG ends = later (later ends.a ends.b) ends.c

abbrev pub index : FaultType → ℕ
index AG = 0
index BG = 1
index CG = 2
index AB = 3
index BC = 4
index CA = 5
index ABG = 6
index BCG = 7
index CAG = 8
index ABC = 9
index ABCG = 10

abbrev pub is_other_type : FaultType → FaultType → Bool
is_other_type one other = not (index one == index other)
