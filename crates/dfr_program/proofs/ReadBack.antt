-- Every record that a recorder gives is whole, and is read from its own two files.
use Rattle.std.proofs.Common.{All, arith}
use Rattle.std.specs.Prelude.{IsTrue}
use Rattle.std.proofs.lemmas.Int.{ints}
use Rattle.std.proofs.lemmas.List.Elements.{recursion_from_All}
use Rattle.dfr_channels.specs.Parts.{SetupParts}
use Rattle.dfr_channels.specs.Setups.{IsLawful}
use Rattle.comtrade_values.specs.Spelling.{IsNumber}
use Rattle.dfr_recorder.specs.Parts.{RecordParts}
use Rattle.dfr_recorder.specs.Limits.{has_stamps}
use Rattle.dfr_recorder.specs.History.{Opening}
use Rattle.dfr_recorder.proofs.Lawful.{closed_law}
use Rattle.comtrade_format.specs.declared.file.Kind.{Kind}
use Rattle.comtrade_write.specs.OfRecord.{file, head_of}
use Rattle.comtrade_write.proofs.Own.{own_writable}
use Rattle.comtrade_format.proofs.Writable.{dat_taken}
use Rattle.comtrade_read.specs.ReadBack.{HasNumbers}
use Rattle.dfr_channels.specs.Decimals.{HasDecimals}
use Rattle.dfr_program.specs.ReadBack.{RecordsReadBack}
use Rattle.comtrade_read.proofs.ReadBack.{read_back}

has_numbers : (l : SetupParts) (r : RecordParts) (kind : Kind) → IsLawful l → All HasDecimals l.analog → IsNumber l.line_freq → HasNumbers (head_of l r kind)
has_numbers l r kind p analog freq =
    let high = p.rate_high in
    record {
      analog = recursion_from_All HasDecimals l.analog analog;
      line_freq = freq;
      rates = (record { above = omega (arith, ints); below = omega (arith, ints, high); places = omega arith }, tt);
      timemult = record { above = omega (arith, ints); below = omega (arith, ints); places = omega arith };
    }

pub records_read : (o : Opening) → IsLawful o.layout → All HasDecimals o.layout.analog → IsNumber o.layout.line_freq → IsTrue (has_stamps o.layout.rate o.limits.longest) → RecordsReadBack o
unfolding file
records_read o p analog freq fit h r kind e =
    let w = own_writable o.layout r kind p (closed_law o h r fit e).whole (closed_law o h r fit e).own in
    read_back (file o.layout r kind) (has_numbers o.layout r kind p analog freq) w.cfg (dat_taken kind (file o.layout r kind) w)
