-- What lines say one after the other, as a loop finds it, up to the first fault.
use Rattle.std.proofs.Common.{◌≡◌, ℕ, zero, suc, ◌+◌, ◌<◌, List, length, drop, refl, sym, ◌∙◌, arith, inl, inr, [], ◌∷◌}
use Rattle.std.specs.Prelude.{Bool, true, false, Result, Ok, Err}
use Rattle.std.specs.List.{position_or_len}
use Rattle.std.proofs.lemmas.Bool.{cases_lt}
use Rattle.std.proofs.lemmas.List.{drop_all}
use Rattle.dfr_script.specs.declared.fault.LineFault.{LineFault}
use Rattle.dfr_script.specs.declared.fault.LineRefusal.{LineRefusal}
use Rattle.dfr_script.specs.declared.fault.LineRefusal.TheVariants as line_refusal
use Rattle.dfr_script.specs.declared.fault.ScriptFault.{ScriptFault}
use Rattle.dfr_script.specs.declared.fault.ScriptRefusal.{ScriptRefusal}
use Rattle.dfr_script.specs.Faults as of_line
use Rattle.dfr_channels.specs.LineFields.{and_then}
use Rattle.dfr_script.specs.Parts.{DraftParts, CommandParts, RecorderSetupParts}
use Rattle.dfr_script.specs.Drafts.{empty, with_line, whole}
use Rattle.dfr_script.specs.Commands.{with_command}
use Rattle.dfr_script.specs.Scripts.{Refuses, at_place, word_at, refused_at, is_go, line, draft, commands, go, script}
use Rattle.dfr_script.specs.Words as words

-- the fault of a line is the fault of the script at its place
pub refuses_at : {X : Type 0} (place : ℕ) (said : Result X LineFault) (e : LineRefusal) → of_line.Refuses said e → Refuses (at_place place said) (refused_at place e)
refuses_at place said (line_refusal.Fault w) h = λ f is. rw (h w refl) cc
refuses_at place said line_refusal.Memory h = λ f is. absurd cc

-- ---- the draft of lines

pub draft_goes_on : (first : DraftParts) (ls : List (List ℕ)) (n : ℕ) (d e : DraftParts) → draft first ls n ≡ Ok d → with_line d (line ls n) ≡ Ok e → draft first ls (n + 1) ≡ Ok e
unfolding draft
draft_goes_on first ls n d e before here = let s : n + 1 ≡ suc n = omega arith in rw (s, before, here) refl

draft_stops : (first : DraftParts) (ls : List (List ℕ)) (n : ℕ) (d : DraftParts) (f : ScriptFault) (count : ℕ) → draft first ls n ≡ Ok d → at_place n (with_line d (line ls n)) ≡ Err f → n < count → draft first ls count ≡ Err f
unfolding draft
draft_stops first ls n d f zero before here lt = absurd (omega arith)
draft_stops first ls n d f (suc m) before here lt = elim (cases_lt n m) [
  | inl less ↦ rw (draft_stops first ls n d f m before here less) refl
  | inr same ↦ let is : m ≡ n = omega arith in rw (is, before) here
]

pub draft_refuses : (first : DraftParts) (ls : List (List ℕ)) (n : ℕ) (d : DraftParts) (e : LineRefusal) (count : ℕ) → draft first ls n ≡ Ok d → of_line.Refuses (with_line d (line ls n)) e → n < count → Refuses (draft first ls count) (refused_at n e)
draft_refuses first ls n d e count before here lt = λ f is. draft_stops first ls n d f count before (refuses_at n (with_line d (line ls n)) e here f is) lt

-- ---- the commands of lines

pub commands_go_on : (from : ℕ) (ls : List (List ℕ)) (n : ℕ) (cs ds : List CommandParts) → commands from ls n ≡ Ok cs → with_command cs (from + n + 1) (line ls n) ≡ Ok ds → commands from ls (n + 1) ≡ Ok ds
unfolding commands
commands_go_on from ls n cs ds before here = let s : n + 1 ≡ suc n = omega arith in rw (s, before, here) refl

commands_stop : (from : ℕ) (ls : List (List ℕ)) (n : ℕ) (cs : List CommandParts) (f : ScriptFault) (count : ℕ) → commands from ls n ≡ Ok cs → at_place (from + n) (with_command cs (from + n + 1) (line ls n)) ≡ Err f → n < count → commands from ls count ≡ Err f
unfolding commands
commands_stop from ls n cs f zero before here lt = absurd (omega arith)
commands_stop from ls n cs f (suc m) before here lt = elim (cases_lt n m) [
  | inl less ↦ rw (commands_stop from ls n cs f m before here less) refl
  | inr same ↦ let is : m ≡ n = omega arith in rw (is, before) here
]

pub commands_refuse : (from : ℕ) (ls : List (List ℕ)) (n : ℕ) (cs : List CommandParts) (e : LineRefusal) (count : ℕ) → commands from ls n ≡ Ok cs → of_line.Refuses (with_command cs (from + n + 1) (line ls n)) e → n < count → Refuses (commands from ls count) (refused_at (from + n) e)
commands_refuse from ls n cs e count before here lt =
    λ f is. commands_stop from ls n cs f count before (refuses_at (from + n) (with_command cs (from + n + 1) (line ls n)) e here f is) lt

-- ---- lines, one after the other

-- the line that comes next, and those after it
pub record Next (ls : List (List ℕ)) (n : ℕ) (l : List ℕ) (rest : List (List ℕ)) : Type 0 where
  pub within : n < length ls
  pub is : line ls n ≡ l
  pub behind : rest ≡ drop (n + 1) ls

pub next_of : (ls : List (List ℕ)) (n : ℕ) (l : List ℕ) (rest : List (List ℕ)) → drop n ls ≡ l ∷ rest → Next ls n l rest
next_of [] n l rest e = absurd (let is : [] ≡ l ∷ rest = sym (drop_all n [] (omega arith)) ∙ e in cc)
next_of (x ∷ xs) zero l rest e = record { within = omega arith; is = cc; behind = cc }
next_of (x ∷ xs) (suc n) l rest e = let later = next_of xs n l rest e in record { within = omega (arith, later.within); is = later.is; behind = let s : suc n + 1 ≡ suc (n + 1) = omega arith in rw s later.behind }

-- an element that fails the test stands before the first that passes
pub ahead_more : {X : Type 0} (p : X → Bool) (x : X) (xs : List X) → p x ≡ false → position_or_len p (x ∷ xs) ≡ 1 + position_or_len p xs
ahead_more p x xs e = rw e refl

pub ahead_here : {X : Type 0} (p : X → Bool) (x : X) (xs : List X) → p x ≡ true → position_or_len p (x ∷ xs) ≡ 0
ahead_here p x xs e = rw e refl

-- ---- what stands from `go` on

pub go_bare : (d : DraftParts) (line : List ℕ) → length (words.rest line) ≡ 0 → go d line ≡ whole d
unfolding go
go_bare d line e = rw e refl

-- a script whose `go` has a fault, or whose set-up has it there
pub go_refused : (ls : List (List ℕ)) (at : ℕ) (d : DraftParts) (line : List ℕ) (behind : List (List ℕ)) (e : ScriptRefusal) → at ≡ position_or_len is_go ls → draft empty ls (position_or_len is_go ls) ≡ Ok d → drop at ls ≡ line ∷ behind → Refuses (word_at at (go d line)) e → Refuses (script ls) e
unfolding script
go_refused ls at d line behind e place said left h =
    let here : drop (position_or_len is_go ls) ls ≡ line ∷ behind = rw place at left in
    let fault : Refuses (word_at (position_or_len is_go ls) (go d line)) e = rw place at h in
    λ f is. rw (said, here, fault f is) refl

-- a script whose commands have a fault
pub command_refused : (ls : List (List ℕ)) (at : ℕ) (d : DraftParts) (line : List ℕ) (behind : List (List ℕ)) (s : RecorderSetupParts) (e : ScriptRefusal) → at ≡ position_or_len is_go ls → draft empty ls (position_or_len is_go ls) ≡ Ok d → drop at ls ≡ line ∷ behind → word_at at (go d line) ≡ Ok s → Refuses (commands (at + 1) behind (length behind)) e → Refuses (script ls) e
unfolding script
command_refused ls at d line behind s e place said left made h =
    let here : drop (position_or_len is_go ls) ls ≡ line ∷ behind = rw place at left in
    let set_up : word_at (position_or_len is_go ls) (go d line) ≡ Ok s = rw place at made in
    let fault : Refuses (commands (position_or_len is_go ls + 1) behind (length behind)) e = rw place at h in
    λ f is. rw (said, here, set_up, fault f is) refl
