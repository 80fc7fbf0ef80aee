-- A capture in either form that comes in pieces, and the capture of libpcap that is given of it.
use Rattle.std.specs.Prelude.{◌≡◌, ℕ, Bool, false, not, List, [], ◌++◌, length, Result, Ok, Err, nat_lt, ◌==◌, if◌then◌else◌}
use Rattle.dfr_bus.specs.Bytes as bytes
use Rattle.dfr_pcap.specs.declared.blocks.TranslateFault.{TranslateFault}
use Rattle.dfr_pcap.specs.declared.blocks.TranslateFault.TheVariants as faults
use Rattle.dfr_pcap.specs.declared.translation.Form.{Form}
use Rattle.dfr_pcap.specs.declared.translation.Form.TheVariants as forms
use Rattle.dfr_pcap.specs.Walks as walks
use Rattle.dfr_pcap.specs.Walks.{BlocksParts, IsOf, classic_head}

pub record TranslationParts : Type 0 where
  pub form : Form
  pub blocks : BlocksParts

abbrev pub parts : Form → BlocksParts → TranslationParts
parts f p = record { form = f; blocks = p }

-- 0A0D0D0A begins the form pcapng
unfoldable pub form_of : (came : List ℕ) → Form
form_of came =
    if nat_lt (length came) 4 then forms.Unknown
    else if bytes.big_4 came 0 == 168627466 then forms.Blocks
    else forms.Classic

-- nothing before the form is known; in the form of libpcap what came; and else the packets as libpcap writes them
abbrev pub IsGiven : Form → (came given : List ℕ) → BlocksParts → Type 0
IsGiven forms.Unknown came given p = (given ≡ []) × IsOf came classic_head p × (p.passed ≡ 0)
IsGiven forms.Classic came given p = given ≡ came
IsGiven forms.Blocks came given p = IsOf came given p

-- all these bytes came, and this was given of them
pub record IsSoFar (came given : List ℕ) (t : TranslationParts) : Type 0 where
  pub form : t.form ≡ form_of came
  pub gives : IsGiven t.form came given t.blocks

-- with a piece more
abbrev pub TakesIn : (piece : List ℕ) → (old new : TranslationParts) → (before after : List ℕ) → Type 0
TakesIn piece old new before after =
    (more : List ℕ) × (after ≡ before ++ more)
    × ((came given : List ℕ) → IsSoFar came given old → IsSoFar (came ++ piece) (given ++ more) new)

-- a capture that is too long stays as it is; if memory ran out nothing is promised
abbrev pub TakesUpTo : (piece : List ℕ) → Result (Unit {0}) TranslateFault → (old new : TranslationParts) → (before after : List ℕ) → Type 0
TakesUpTo piece (Err faults.Memory) old new before after = Unit {0}
TakesUpTo piece (Err faults.Long) old new before after = (new ≡ old) × (after ≡ before)
TakesUpTo piece r old new before after = TakesIn piece old new before after

-- what comes next in the form pcapng: nothing that is whole, or the fault
abbrev pub StopsIn : Form → Result (Unit {0}) TranslateFault → BlocksParts → Type 0
StopsIn forms.Blocks r p = walks.StopsAt r p
StopsIn f (Err (faults.Damaged at flaw)) p = ⊥
StopsIn f r p = Unit {0}

abbrev pub StopsAt : Result (Unit {0}) TranslateFault → TranslationParts → Type 0
StopsAt r t = StopsIn t.form r t.blocks

-- bytes came that are no whole block, or fewer than say the form
abbrev pub is_in : Form → BlocksParts → Bool
is_in forms.Unknown p = not (length p.bytes == 0)
is_in forms.Classic p = false
is_in forms.Blocks p = walks.is_within p

abbrev pub is_within : TranslationParts → Bool
is_within t = is_in t.form t.blocks

-- bytes are written as they are, if there is memory
abbrev pub PassesOn : Result (Unit {0}) TranslateFault → (bytes before after : List ℕ) → Type 0
PassesOn (Ok _) bytes before after = after ≡ before ++ bytes
PassesOn (Err faults.Memory) bytes before after = Unit {0}
PassesOn (Err e) bytes before after = ⊥

-- these pieces have this form with the last one; whichever that was, it was taken in
abbrev pub BeginsUpTo : Result (Unit {0}) TranslateFault → Form → (old new : BlocksParts) → (before after : List ℕ) → Type 0
BeginsUpTo r f old new before after =
    (piece : List ℕ) (p : BlocksParts) → old ≡ walks.added piece p → TakesUpTo piece r (parts forms.Unknown p) (parts f new) before after
