-- Which stream a unit is of: by its svID, or by the application's number and the address that the frame comes from.
use Rattle.std.specs.Prelude.{ℕ, Bool, ◌&&◌, ◌==◌, nat_le, List, length, slice_range}
use Rattle.std.specs.Str.{bytes_eq}
use Rattle.dfr_bus.specs.declared.span.Span.{Span}
use Rattle.dfr_bus.specs.declared.frame.Ethernet.{Ethernet}

-- a part of the bytes is this
abbrev pub part_is : List ℕ → Span → List ℕ → Bool
part_is bytes span wanted = nat_le span.from span.to && nat_le span.to (length bytes) && bytes_eq (slice_range bytes span.from span.to) wanted

abbrev pub has_source : List ℕ → Ethernet → (app_id wanted : ℕ) → List ℕ → Bool
has_source bytes frame app_id wanted mac = (app_id == wanted) && part_is bytes frame.source mac
