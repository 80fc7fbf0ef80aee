-- A frame of sampled values (IEC 61850-9-2, clause 8 and annex A).
use Rattle.std.specs.Prelude.{ℕ, zero, suc, ◌+◌, ◌-◌, ◌*◌, ◌/◌, ◌%◌, List, [], ◌∷◌, take, Bool, ◌||◌, Option, Some, None, Result, Ok, Err, nat_lt, ◌==◌, if◌then◌else◌}
use Rattle.dfr_bus.specs.declared.span.Span.{Span}
use Rattle.dfr_bus.specs.declared.fault.Fault.{Fault}
use Rattle.dfr_bus.specs.declared.fault.Wrong.TheVariants.{CutShort, TooLong, Length, Asdus, Uneven, Trailing}
use Rattle.dfr_bus.specs.declared.asdu.Asdu.{Asdu}
use Rattle.dfr_bus.specs.declared.asdu.Sample.{Sample}
use Rattle.std.specs.Int.{w32, cast_signed}
use Rattle.dfr_bus.specs.Bytes.{byte, big_2, big_4}
use Rattle.dfr_bus.specs.Readings.{Reading, ◌>>=◌, fault}
use Rattle.dfr_bus.specs.Ber.{element_at, field_at, optional_at, optional_field_at, optional_2_at}

-- Values of 4 bytes, each with a quality of 4 bytes.
unfoldable pub data_at : (bytes : List ℕ) (at end tag : ℕ) → Result Span Fault
data_at bytes at end tag = do
  content ← element_at bytes at end tag
  if (content.to - content.from) % 8 == 0 then Ok content else Err (fault at Uneven)

-- One application service data unit, from `at` to `end`. Its fields come in this order:
-- svID, datSet, smpCnt, confRev, refrTm, smpSynch, smpRate, the data, smpMod, gmIdentity.
unfoldable pub asdu_at : (bytes : List ℕ) (at end : ℕ) → Result Asdu Fault
asdu_at bytes at end = do
  sv_id ← element_at bytes at end 128
  dat_set ← optional_at bytes sv_id.to end 129
  smp_cnt ← field_at bytes dat_set.1 end 130 2
  conf_rev ← field_at bytes smp_cnt.to end 131 4
  refr_tm ← optional_field_at bytes conf_rev.to end 132 8
  smp_synch ← field_at bytes refr_tm.1 end 133 1
  smp_rate ← optional_2_at bytes smp_synch.to end 134
  seq_data ← data_at bytes smp_rate.1 end 135
  smp_mod ← optional_2_at bytes seq_data.to end 136
  gm_identity ← optional_field_at bytes smp_mod.1 end 137 8
  if gm_identity.1 == end then Ok (record {
    sv_id = sv_id;
    dat_set = dat_set.0;
    smp_cnt = big_2 bytes smp_cnt.from;
    conf_rev = big_4 bytes conf_rev.from;
    refr_tm = refr_tm.0;
    smp_synch = byte bytes smp_synch.from;
    smp_rate = smp_rate.0;
    seq_data = seq_data;
    smp_mod = smp_mod.0;
    gm_identity = gm_identity.0;
  }) else Err (fault gm_identity.1 Trailing)

-- so many of them one after the other, and nothing after the last
unfoldable pub asdus_at : (bytes : List ℕ) (at end count : ℕ) → Result (List Asdu) Fault
asdus_at bytes at end zero = if at == end then Ok [] else Err (fault at Trailing)
asdus_at bytes at end (suc count) = do
  content ← element_at bytes at end 48
  asdu ← asdu_at bytes content.from content.to
  others ← asdus_at bytes content.to end count
  Ok (asdu ∷ others)

-- What a frame says.
pub record Frame : Type 0 where
  pub app_id : ℕ
  pub reserved_1 : ℕ
  pub reserved_2 : ℕ
  pub asdus : List Asdu

-- an element, and nothing after it
unfoldable pub only_element_at : (bytes : List ℕ) (at end tag : ℕ) → Result Span Fault
only_element_at bytes at end tag = do
  content ← element_at bytes at end tag
  if content.to == end then Ok content else Err (fault content.to Trailing)

-- the number of ASDUs: one byte, 1 to 8
unfoldable pub count_at : (bytes : List ℕ) (at end : ℕ) → Result (ℕ × ℕ) Fault
count_at bytes at end = do
  content ← field_at bytes at end 128 1
  if byte bytes content.from == 0 || nat_lt 8 (byte bytes content.from) then Err (fault content.from Asdus)
      else Ok (byte bytes content.from, content.to)

-- the savPdu: the number of ASDUs, and the ASDUs
unfoldable pub pdu_at : (bytes : List ℕ) (at end : ℕ) → Result (List Asdu) Fault
pdu_at bytes at end = do
  pdu ← only_element_at bytes at end 96
  count ← count_at bytes pdu.from pdu.to
  content ← only_element_at bytes count.1 pdu.to 162
  asdus_at bytes content.from content.to count.0

-- The head of a frame: APPID, length, and two reserved numbers. The length is that of the head and of the PDU; the frame may
-- be filled up after them.
unfoldable pub end_of_pdu : (bytes : List ℕ) (at end : ℕ) → Result ℕ Fault
end_of_pdu bytes at end =
    if nat_lt (end - at) 8 then Err (fault end CutShort)
    else if nat_lt (big_2 bytes (at + 2)) 8 then Err (fault (at + 2) Length)
    else if nat_lt (end - at) (big_2 bytes (at + 2)) then Err (fault (at + 2) TooLong)
    else Ok (at + big_2 bytes (at + 2))

-- What the payload from `at` to `end` says.
unfoldable pub frame_at : (bytes : List ℕ) (at end : ℕ) → Result Frame Fault
frame_at bytes at end = do
  pdu_end ← end_of_pdu bytes at end
  asdus ← pdu_at bytes (at + 8) pdu_end
  Ok (record {
    app_id = big_2 bytes at;
    reserved_1 = big_2 bytes (at + 4);
    reserved_2 = big_2 bytes (at + 6);
    asdus = asdus;
  })

-- how many channels the data has
abbrev pub channels : Asdu → ℕ
channels asdu = (asdu.seq_data.to - asdu.seq_data.from) / 8

-- the value of a channel, a signed number, and its quality
abbrev pub sample_at : (bytes : List ℕ) → Asdu → (channel : ℕ) → Sample
sample_at bytes asdu channel =
    let at = asdu.seq_data.from + 8 * channel in
    record { value = cast_signed w32 (big_4 bytes at); quality = big_4 bytes (at + 4) }
