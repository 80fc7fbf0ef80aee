-- What the lines of a plan said so far.
use Rattle.std.specs.Prelude.{ℕ, ◌≤◌, List, [], ◌++◌, length, Option, None}
use Rattle.std.specs.List.{All}
use Rattle.dfr_bus.specs.declared.span.Span.{Span}
use Rattle.dfr_bay.specs.declared.settings.Settings.{Settings}
use Rattle.dfr_bay.specs.declared.channel.Channel.{Channel}
use Rattle.dfr_capture.specs.declared.plan.Key.{Key}
use Rattle.dfr_capture.specs.declared.plan.Dating.{Dating}
use Rattle.dfr_capture.specs.declared.plan.Block.{Block}
use Rattle.dfr_capture.specs.declared.plan.Contact.{Contact}
use Rattle.dfr_capture.specs.Plans.{has_divisor}

-- the names one after the other, and what has them
pub record DraftParts : Type 0 where
  pub text : List ℕ
  pub streams : List Key
  pub channels : List Channel
  pub blocks : List Block
  pub contacts : List Contact
  pub follow : Option Settings
  pub dating : Option Dating

abbrev pub empty : DraftParts
empty = record { text = []; streams = []; channels = []; blocks = []; contacts = []; follow = None; dating = None }

-- where a name stands that is put after a text
abbrev pub span_after : (text name : List ℕ) → Span
span_after text name = record { from = length text; to = length (text ++ name) }

pub record IsDraft (d : DraftParts) : Type 0 where
  pub few : length d.streams ≤ 256
  pub divided : All has_divisor d.channels
