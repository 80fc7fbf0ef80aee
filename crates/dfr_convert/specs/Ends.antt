-- How a capture has ended.
use Rattle.std.specs.Prelude.{ℕ, ◌==◌, Bool, true, false, nat_lt, if◌then◌else◌, Option, Some, None}
use Rattle.dfr_convert.specs.declared.teller.End.{End}
use Rattle.dfr_convert.specs.declared.teller.End.TheVariants as ends

-- where its head is whole
abbrev pub after_head : (is_within : Bool) → (first : Option ℕ) → End
after_head true first = ends.Cut
after_head false None = ends.Scanless
after_head false (Some time) = ends.Over

-- by how many bytes came, up to those of a head; whether some are left that are no whole packet; and when the frame came that gave the first lines
abbrev pub end_of : (came : ℕ) (is_within : Bool) (first : Option ℕ) → End
end_of came is_within first = if came == 0 then ends.Empty else if nat_lt came 24 then ends.Headless else after_head is_within first
