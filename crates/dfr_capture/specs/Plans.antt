-- What is recorded of a bus. The names are parts of the text.
use Rattle.std.specs.Prelude.{◌≡◌, ℕ, ◌≤◌, List, length, None, nat_le, ◌&&◌, if◌then◌else◌, [], slice_range}
use Rattle.std.specs.List.{All}
use Rattle.dfr_bus.specs.declared.span.Span.{Span}
use Rattle.dfr_bay.specs.declared.settings.Settings.{Settings}
use Rattle.dfr_bay.specs.declared.channel.Channel.{Channel}
use Rattle.dfr_bay.specs.Settings.{settings_fault}
use Rattle.dfr_capture.specs.declared.plan.Key.{Key}
use Rattle.dfr_capture.specs.declared.plan.Dating.{Dating}
use Rattle.dfr_capture.specs.declared.plan.Block.{Block}
use Rattle.dfr_capture.specs.declared.plan.Contact.{Contact}

pub record PlanParts : Type 0 where
  pub text : List ℕ
  pub settings : Settings
  pub dating : Dating
  pub streams : List Key
  pub channels : List Channel
  pub blocks : List Block
  pub contacts : List Contact

abbrev pub has_divisor : Channel → Type 0
has_divisor c = 1 ≤ c.divisor

pub record IsPlan (p : PlanParts) : Type 0 where
  pub fits : settings_fault p.settings ≡ None
  pub some : 1 ≤ length p.streams
  pub few : length p.streams ≤ 256
  pub divided : All has_divisor p.channels

-- the bytes of a part, if there are so many
abbrev pub part : List ℕ → Span → List ℕ
part bytes span = if nat_le span.from span.to && nat_le span.to (length bytes) then slice_range bytes span.from span.to else []
