-- What was asked of a folder, and what a loss of power may leave of it.
use Rattle.std.specs.Prelude.{◌≡◌, ◌⊎◌, ◌≤◌, ◌+◌, ◌==◌, ◌&&◌, ℕ, suc, Bool, true, if◌then◌else◌, List, [], ◌∷◌, length, Option, Some, None}
use Rattle.std.proofs.Common.{inl, inr}
use Rattle.std.proofs.Math.Nat.{not-suc-le_self}
use Rattle.dfr_folder.specs.declared.call.Call.{Call}
use Rattle.dfr_folder.specs.declared.call.Call.TheVariants as call
use Rattle.dfr_folder.specs.declared.name.Ending.{Ending}
use Rattle.dfr_folder.specs.declared.name.Ending.TheVariants as ending
use Rattle.dfr_folder.specs.declared.name.Name.{Name}
use Rattle.dfr_folder.specs.declared.name.Seen.{Seen}
use Rattle.dfr_folder.specs.Directory.{File, Content, SameBut, Moved, Removed, Stays}

-- a call, the files that there were, and the bytes that it was given
abbrev pub Event : Type 0
Event = Call × List Seen × List ℕ

-- the first of the calls
abbrev pub event_of : List Call → List Seen → List ℕ → Event
event_of [] there bytes = (call.Failed, there, bytes)
event_of (first ∷ more) there bytes = (first, there, bytes)

abbrev pub ending_number : Ending → ℕ
ending_number ending.Config = 0
ending_number ending.Data = 1
ending_number ending.ConfigPart = 2
ending_number ending.DataPart = 3
ending_number ending.Gone = 4

unfoldable pub same_name : Name → Name → Bool
same_name a b =
    (a.key.date == b.key.date) && (a.key.time == b.key.time) && (a.key.micros == b.key.micros) && (a.key.number == b.key.number) && (a.key.copy == b.key.copy)
    && (ending_number a.ending == ending_number b.ending)

-- whether a file whose name passes the test is among them, and whether its bytes are on the disk
abbrev pub state_by : (Name → Bool) → List Seen → Option Bool
state_by test [] = None
state_by test (seen ∷ more) = if test seen.name then Some seen.synced else state_by test more

abbrev pub state_of : List Seen → Name → Option Bool
state_of there name = state_by (λ n. same_name n name) there

-- no file, or one whose bytes are on the disk
abbrev pub is_not_false : Option Bool → Bool
is_not_false None = true
is_not_false (Some synced) = synced

-- the bytes under a name after a call; a write that failed left a part, or other bytes
abbrev pub bytes_after : Call → List ℕ → (Name → List ℕ) → (Name → List ℕ) → Name → List ℕ
bytes_after (call.Wrote name) bytes part before n = if same_name name n then bytes else before n
bytes_after (call.WroteInPart name) bytes part before n = if same_name name n then part n else before n
bytes_after (call.Synced name) bytes part before n = before n
bytes_after (call.Renamed from to) bytes part before n = if same_name to n then before from else before n
bytes_after (call.NotRenamed from to) bytes part before n = before n
bytes_after (call.Removed name) bytes part before n = before n
bytes_after (call.NotRemoved name) bytes part before n = before n
bytes_after call.SyncedNames bytes part before n = before n
bytes_after call.Looked bytes part before n = before n
bytes_after call.Failed bytes part before n = before n

-- The bytes under a name, if there is such a file; the newest call comes first. `other` has those that no call was given: at 0 what each file had at the start, and at the number of a call what that left of a write.
abbrev pub bytes_under : (ℕ → Name → List ℕ) → List Event → Name → List ℕ
bytes_under other [] n = other 0 n
bytes_under other (event ∷ earlier) n = bytes_after event.0 event.2 (other (suc (length earlier))) (bytes_under other earlier) n

abbrev pub file_of : Option Bool → List ℕ → Option File
file_of None bytes = None
file_of (Some synced) bytes = Some (record { bytes = bytes; synced = synced })

-- what each name has
abbrev pub files_of : (ℕ → Name → List ℕ) → List Seen → List Event → Name → Option File
files_of other there events n = file_of (state_of there n) (bytes_under other events n)

-- A crash leaves what it might have left before a call, or the same with its change made. A sync takes outcomes away.
abbrev pub left_after : Call → (Name → Option File) → List ℕ → (Content → Type 0) → Content → Type 0
left_after (call.Wrote name) files bytes before c = before c ⊎ ((d : Content) × before d × SameBut name d c)
left_after (call.WroteInPart name) files bytes before c = before c ⊎ ((d : Content) × before d × SameBut name d c)
left_after (call.Synced name) files bytes before c = before c × ((c name ≡ None) ⊎ (c name ≡ Some bytes))
left_after (call.Renamed from to) files bytes before c = before c ⊎ ((d : Content) × before d × Moved from to d c)
left_after (call.NotRenamed from to) files bytes before c = before c ⊎ ((d : Content) × before d × Moved from to d c)
left_after (call.Removed name) files bytes before c = before c ⊎ ((d : Content) × before d × Removed name d c)
left_after (call.NotRemoved name) files bytes before c = before c ⊎ ((d : Content) × before d × Removed name d c)
left_after call.SyncedNames files bytes before c = before c × ((n : Name) → Stays (files n) (c n))
left_after call.Looked files bytes before c = before c
left_after call.Failed files bytes before c = before c

module _ (other : ℕ → Name → List ℕ) (start : Content → Type 0) where
  -- what a crash after these calls may leave
  abbrev pub left : List Event → Content → Type 0
  left [] c = start c
  left (event ∷ earlier) c = left_after event.0 (files_of other event.1 earlier) event.2 (left earlier) c

  -- what a crash might have left before the newest call, but after the first so many
  abbrev pub was_left : ℕ → List Event → Content → Type 0
  was_left since [] c = ⊥
  was_left since (event ∷ earlier) c = (since ≤ length earlier) × (left earlier c ⊎ was_left since earlier c)

  abbrev pub left_since : ℕ → List Event → Content → Type 0
  left_since since events c = left events c ⊎ was_left since events c

  none_since : (events : List Event) (c : Content) → was_left (length events) events c → ⊥
  none_since [] c was = was
  none_since (event ∷ earlier) c was = not-suc-le_self (length earlier) was.0

  -- since now there is nothing but what there is now
  pub only_now : (events : List Event) (c : Content) → left_since (length events) events c → left events c
  only_now events c (inl now) = now
  only_now events c (inr was) = absurd (none_since events c was)

abbrev pub failures_of : Call → ℕ
failures_of (call.WroteInPart name) = 1
failures_of (call.NotRenamed from to) = 1
failures_of (call.NotRemoved name) = 1
failures_of call.Failed = 1
failures_of (call.Wrote name) = 0
failures_of (call.Synced name) = 0
failures_of (call.Renamed from to) = 0
failures_of (call.Removed name) = 0
failures_of call.SyncedNames = 0
failures_of call.Looked = 0

-- how often a call failed
abbrev pub failed : List Event → ℕ
failed [] = 0
failed (event ∷ earlier) = failures_of event.0 + failed earlier
