-- What pieces have of the whole capture: of all bytes that came so far.
use Rattle.std.specs.Prelude.{◌≡◌, ℕ, ◌-◌, ◌≤◌, Bool, true, false, List, length, drop, Option, Some, None, Result, Ok, Err}
use Rattle.dfr_bus.specs.declared.fault.Fault.{Fault}
use Rattle.dfr_bus.specs.declared.fault.Wrong.{Wrong}
use Rattle.dfr_bus.specs.declared.fault.Wrong.TheVariants.{CutShort}
use Rattle.dfr_bus.specs.declared.capture.Capture.{Capture}
use Rattle.dfr_bus.specs.declared.capture.Packet as packet
use Rattle.dfr_bus.specs.Captures.{head_at, packet_at}
use Rattle.dfr_pcap.specs.declared.pieces.Step as step_of
use Rattle.dfr_pcap.specs.declared.pieces.Step.TheVariants as steps
use Rattle.dfr_pcap.specs.Pieces.{PiecesParts, wrong_step, of_head}

-- a packet of the whole capture, its places counted from `at`
abbrev pub back : (at : ℕ) → packet.Packet → packet.Packet
back at p = record p { content = record { from = p.content.from - at; to = p.content.to - at } }

abbrev pub of_whole : (at : ℕ) → Result packet.Packet Fault → step_of.Step
of_whole at (Ok p) = steps.Packet (back at p)
of_whole at (Err f) = wrong_step f.at f.wrong

-- what the whole capture has at `at`, and before the head was read
abbrev pub step_at : (came : List ℕ) → Option Capture → (at : ℕ) → step_of.Step
step_at came None at = of_head 0 (head_at came (length came))
step_at came (Some c) at = of_whole at (packet_at c came at (length came))

-- the head is that of the whole capture; where it was not passed, nothing was
abbrev pub IsHead : (came : List ℕ) → (passed : ℕ) → Option Capture → Type 0
IsHead came passed None = passed ≡ 0
IsHead came passed (Some c) = head_at came (length came) ≡ Ok c

-- these are the pieces after all these bytes came
pub record IsOf (came : List ℕ) (p : PiecesParts) : Type 0 where
  pub within : p.passed ≤ length came
  pub left : p.bytes ≡ drop p.passed came
  pub head : IsHead came p.passed p.capture

-- more bytes could change what was read
abbrev pub is_short : Wrong → Bool
is_short CutShort = true
is_short w = false

abbrev pub is_cut : {A : Type 0} → Result A Fault → Bool
is_cut (Ok x) = false
is_cut (Err f) = is_short f.wrong
