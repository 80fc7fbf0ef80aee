-- A GOOSE frame (IEC 61850-8-1, annex A), without what its data says.
use Rattle.std.specs.Prelude.{ℕ, ◌+◌, ◌-◌, Bool, false, true, not, ◌&&◌, ◌||◌, List, Option, Some, None, Result, Ok, Err, nat_lt, ◌==◌, if◌then◌else◌}
use Rattle.dfr_bus.specs.declared.span.Span.{Span}
use Rattle.dfr_bus.specs.declared.fault.Fault.{Fault}
use Rattle.dfr_bus.specs.declared.fault.Wrong.TheVariants.{CutShort, Number, Trailing}
use Rattle.dfr_bus.specs.declared.goose.Goose.{Goose}
use Rattle.dfr_bus.specs.Bytes.{byte, big_2, number_from}
use Rattle.dfr_bus.specs.Readings.{◌>>=◌, fault}
use Rattle.dfr_bus.specs.Ber.{has_tag, element_at, field_at, optional_at}
use Rattle.dfr_bus.specs.SampledValues.{only_element_at, end_of_pdu}

-- An INTEGER that isn't negative and is below 2^32, in one byte or more, and the place after it. Zeros may lead.
unfoldable pub unsigned_at : (bytes : List ℕ) (at end tag : ℕ) → Result (ℕ × ℕ) Fault
unsigned_at bytes at end tag = do
  content ← element_at bytes at end tag
  if content.from == content.to then Err (fault at Number)
      else if nat_lt 127 (byte bytes content.from) then Err (fault at Number)
      else if nat_lt 4294967295 (number_from 0 bytes content.from (content.to - content.from)) then Err (fault at Number)
      else Ok (number_from 0 bytes content.from (content.to - content.from), content.to)

-- A BOOLEAN, false where it is left out, and the place after it.
unfoldable pub flag_at : (bytes : List ℕ) (at end tag : ℕ) → Result (Bool × ℕ) Fault
flag_at bytes at end tag =
    if has_tag bytes at end tag then (field_at bytes at end tag 1 >>= λ content. Ok (not (byte bytes content.from == 0), content.to))
    else Ok (false, at)

-- The goosePdu's fields, from `at` to `end`, in this order: gocbRef, timeAllowedtoLive, datSet, goID, t, stNum, sqNum, test,
-- confRev, ndsCom, numDatSetEntries, allData.
unfoldable pub goose_pdu_at : (app reserved_1 reserved_2 : ℕ) (bytes : List ℕ) (at end : ℕ) → Result Goose Fault
goose_pdu_at app reserved_1 reserved_2 bytes at end = do
  gocb_ref ← element_at bytes at end 128
  live ← unsigned_at bytes gocb_ref.to end 129
  dat_set ← element_at bytes live.1 end 130
  go_id ← optional_at bytes dat_set.to end 131
  t ← field_at bytes go_id.1 end 132 8
  st_num ← unsigned_at bytes t.to end 133
  sq_num ← unsigned_at bytes st_num.1 end 134
  test ← flag_at bytes sq_num.1 end 135
  conf_rev ← unsigned_at bytes test.1 end 136
  nds_com ← flag_at bytes conf_rev.1 end 137
  entries ← unsigned_at bytes nds_com.1 end 138
  all_data ← only_element_at bytes entries.1 end 171
  Ok (record {
    app_id = app;
    reserved_1 = reserved_1;
    reserved_2 = reserved_2;
    gocb_ref = gocb_ref;
    time_allowed_to_live = live.0;
    dat_set = dat_set;
    go_id = go_id.0;
    t = t;
    st_num = st_num.0;
    sq_num = sq_num.0;
    test = test.0;
    conf_rev = conf_rev.0;
    nds_com = nds_com.0;
    entries = entries.0;
    all_data = all_data;
  })

-- What the payload from `at` to `end` says. Its head is that of sampled values.
unfoldable pub goose_at : (bytes : List ℕ) (at end : ℕ) → Result Goose Fault
goose_at bytes at end = do
  pdu_end ← end_of_pdu bytes at end
  pdu ← only_element_at bytes (at + 8) pdu_end 97
  goose_pdu_at (big_2 bytes at) (big_2 bytes (at + 4)) (big_2 bytes (at + 6)) bytes pdu.from pdu.to
