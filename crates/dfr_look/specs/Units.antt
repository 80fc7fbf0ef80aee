-- What a unit of sampled values says of its stream.
use Rattle.std.specs.Prelude.{ℕ, zero, suc, ◌&&◌, List, length, Option, Some, None, nat_lt, nat_le, bit_or, if◌then◌else◌}
use Rattle.dfr_bus.specs.declared.asdu.Asdu.{Asdu}
use Rattle.dfr_bus.specs.declared.asdu.Sample.{Sample}
use Rattle.dfr_bus.specs.SampledValues.{channels, sample_at}
use Rattle.dfr_look.specs.declared.unit.Unit.{Unit}

-- the sample of a channel, if the unit has one
abbrev pub sample : (bytes : List ℕ) → Asdu → (channel : ℕ) → Option Sample
sample bytes asdu channel =
    if nat_lt channel (channels asdu) && nat_le asdu.seq_data.to (length bytes) then Some (sample_at bytes asdu channel) else None

-- its quality; 0 for no sample
abbrev pub quality_in : Option Sample → ℕ
quality_in None = 0
quality_in (Some s) = s.quality

-- the bits that the quality of one of the first channels has
unfoldable pub quality_of : (bytes : List ℕ) → Asdu → (channels : ℕ) → ℕ
quality_of bytes asdu zero = 0
quality_of bytes asdu (suc n) = bit_or (quality_of bytes asdu n) (quality_in (sample bytes asdu n))

abbrev pub unit_of : (bytes : List ℕ) → Asdu → Unit
unit_of bytes asdu = record {
  count = asdu.smp_cnt;
  synch = asdu.smp_synch;
  rate = asdu.smp_rate;
  modulus = asdu.smp_mod;
  revision = asdu.conf_rev;
  values = channels asdu;
  quality = quality_of bytes asdu (channels asdu);
}
