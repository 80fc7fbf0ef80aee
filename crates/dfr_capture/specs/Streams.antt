-- Which stream a unit of sampled values is of.
use Rattle.std.specs.Prelude.{ℕ, Bool, List, position, Option}
use Rattle.dfr_bus.specs.declared.asdu.Asdu.{Asdu}
use Rattle.dfr_bus.specs.declared.frame.Ethernet.{Ethernet}
use Rattle.dfr_bay.specs.Names as names
use Rattle.dfr_capture.specs.declared.plan.Key.{Key}
use Rattle.dfr_capture.specs.declared.plan.Key.TheVariants.{SvId, Source}
use Rattle.dfr_capture.specs.Plans.{PlanParts, part}

-- a unit of a frame that comes from this application has the key
abbrev pub is_key : (text bytes : List ℕ) → Ethernet → (app_id : ℕ) → Asdu → Key → Bool
is_key text bytes e app_id asdu (SvId name) = names.part_is bytes asdu.sv_id (part text name)
is_key text bytes e app_id asdu (Source wanted mac) = names.has_source bytes e app_id wanted (part text mac)

-- the first stream with a key that it has
abbrev pub stream_of : PlanParts → (bytes : List ℕ) → Ethernet → (app_id : ℕ) → Asdu → Option ℕ
stream_of p bytes e app_id asdu = position (is_key p.text bytes e app_id asdu) p.streams
