-- The set-up of a draft to which each line came.
use Rattle.std.proofs.Common.{◌≡◌, ℕ, List, [], Some, unwrap_or, refl}
use Rattle.std.specs.Prelude.{ℤ, Ok}
use Rattle.comtrade_values.specs.Spelling.{Number}
use Rattle.dfr_script.specs.declared.limit_line.LimitNumbers.{LimitNumbers}
use Rattle.dfr_script.specs.Parts.{DraftParts}
use Rattle.dfr_script.specs.Drafts.{whole}

pub whole_of : (d : DraftParts) (station device : List ℕ) (line_freq : Number) (rate : ℕ) (start : ℤ) (limits : LimitNumbers)
    → d.station ≡ Some station → d.device ≡ Some device → d.line_freq ≡ Some line_freq → d.rate ≡ Some rate → d.start ≡ Some start → d.limits ≡ Some limits
    → whole d ≡ Ok (record {
      setup = record { station = station; device = device; analog = d.analog; status = d.status; line_freq = line_freq; rate = rate; start = start };
      limits = limits;
      rules = unwrap_or d.rules [];
    })
unfolding whole
whole_of d station device line_freq rate start limits a b c e f g = rw (a, b, c, e, f, g) refl
