-- A command that a parse met, by its name and its rows.
use Rattle.std.proofs.Common.{◌≡◌, ℕ, Bool, true, false, Bor, get_or, arith, ltb, ltb-true, ◌<◌, List, [], Option, Some, None, option_map, codes, inl, inr, refl, ap, ap₂, ◌∙◌, sym, subst, rules}
use Rattle.clap.specs.Words.{Row, Rule, Text, all_of, first_of, first_value, matched_of, raw_values, rows_of, rule_of, with_rule}
use Rattle.std.specs.Prelude.{◌&&◌, ◌||◌, ◌==◌, ◌⊎◌, MatchOption}
use Rattle.clap.specs.Matches.{subcommand_name_of}
use Rattle.clap.specs.Words.{AddsArg, AddsSubcommand, App, app_of, fault_of, is_simple, subcommand_of, with_subcommand}
use Rattle.clap.proofs.OnLiterals.{clap_on_literals}
use Rattle.clap.specs.declared.builder.arg.Arg.{Arg}
use Rattle.clap.specs.declared.builder.command.Command.{Command}
use Rattle.clap.specs.Words.{subcommand_rows_of}
use Rattle.clap.proofs.WalkLemmas.{first_value-rows, raw_values-rows}
use Rattle.clap.specs.declared.parser.matches.Found.{Found}
use Rattle.clap.specs.declared.parser.matches.ArgMatches.{ArgMatches}
use Rattle.comtrade_io.specs.declared.words.Names.{Names}
use Rattle.comtrade_io.specs.declared.words.Converted.{Converted}
use Rattle.comtrade_io.specs.declared.words.Compared.{Compared}
use Rattle.comtrade_io.specs.Asking.{IsNewPair}
use Rattle.comtrade_io.specs.declared.words.View.{View}
use Rattle.comtrade_io.specs.declared.words.View.TheVariants as view
use Rattle.comtrade_io.specs.declared.words.Batch.{Batch}
use Rattle.comtrade_io.specs.declared.words.Batch.TheVariants as batch
use Rattle.comtrade_io.specs.declared.words.Survey.{Survey}
use Rattle.comtrade_io.specs.declared.words.Survey.TheVariants as survey
use Rattle.comtrade_io.specs.declared.words.Asked.{Asked}
use Rattle.comtrade_io.specs.declared.words.Asked.TheVariants as asks
use Rattle.comtrade_io.specs.declared.command_line.asked.Answer.{Answer}
use Rattle.comtrade_io.specs.declared.command_line.asked.Answer.TheVariants.{Do, Print, Refuse}
use Rattle.clap.specs.declared.error.kind.ErrorKind.{ErrorKind}
use Rattle.clap.specs.declared.error.kind.ErrorKind.TheVariants.{OutOfMemory}
use Rattle.clap.specs.Words.{IsAmong, Kinds, is_simple_and_free}
use Rattle.comtrade_io.specs.Asking.{AnswersTo, AreNames, Asks, AsksAs, Does, DoneAbout, FitsNothing, IsCompared, IsConverted, Tells, is_text}
use Rattle.comtrade_io.specs.Verbs.{batch_name, survey_name, view_name}
use Rattle.comtrade_io.specs.Commands.{IsCommand, IsKinded, program}

-- what rows say is what the getters read
pub rows : (f : Found) (id : Text) → first_value f id ≡ first_of id (rows_of f)
rows f id = first_value-rows f id

pub all_rows : (f : Found) (id : Text) → option_map raw_values (matched_of f id) ≡ all_of id (rows_of f)
all_rows f id = raw_values-rows f id

-- equal texts have equal letters
letter : (k : ℕ) (s t : List ℕ) → s ≡ t → get_or s k 0 ≡ get_or t k 0
letter k s t e = ap (λ (x : List ℕ). get_or x k 0) e

below : (m n : ℕ) → m ≡ n → ltb m n ≡ true → ⊥
below m n e h = let lt : m < n = ltb-true m n h in absurd (omega arith)

differ : (tells : Text → Bool) (s t : Text) → tells s ≡ true → tells t ≡ false → s ≡ t → ⊥
differ tells s t is isnt e = absurd (let both : tells t ≡ true = ap tells (sym e) ∙ is in cc)

-- the first two letters tell the commands over one pair, those over each of many and those over all of them from the others
abbrev is_view : Text → Bool
is_view name = let c = get_or name 0 0 in c == 115 || c == 100 || get_or name 1 0 == 115

abbrev is_batch : Text → Bool
is_batch name = let c = get_or name 0 0 in c == 112 || c == 109 || (c == 99 && get_or name 1 0 == 104)

abbrev is_survey : Text → Bool
is_survey name = let c = get_or name 1 0 in c == 105 || c == 118

view_is : (v : View) → is_view (view_name v) ≡ true
view_is view.Show = refl
view_is view.Csv = refl
view_is view.Detect = refl

batch_is : (b : Batch) → (is_batch (batch_name b) ≡ true) × (is_view (batch_name b) ≡ false) × (is_survey (batch_name b) ≡ false)
batch_is batch.Check = (refl, refl, refl)
batch_is batch.Plot = (refl, refl, refl)
batch_is batch.Page = (refl, refl, refl)
batch_is batch.Measure = (refl, refl, refl)

survey_is : (s : Survey) → (is_survey (survey_name s) ≡ true) × (is_view (survey_name s) ≡ false)
survey_is survey.List = (refl, refl)
survey_is survey.Events = (refl, refl)

-- no two commands have one name
view_isnt : (v : View) (name : Text) → is_view name ≡ false → view_name v ≡ name → ⊥
view_isnt v name other e = differ is_view (view_name v) name (view_is v) other e

batch_isnt : (b : Batch) (name : Text) → is_batch name ≡ false → batch_name b ≡ name → ⊥
batch_isnt b name other e = differ is_batch (batch_name b) name (batch_is b).0 other e

batch_isnt_view : (b : Batch) (v : View) → batch_name b ≡ view_name v → ⊥
batch_isnt_view b v e = view_isnt v (batch_name b) (batch_is b).1 (sym e)

survey_isnt : (s : Survey) (name : Text) → is_survey name ≡ false → survey_name s ≡ name → ⊥
survey_isnt s name other e = differ is_survey (survey_name s) name (survey_is s).0 other e

survey_isnt_view : (s : Survey) (v : View) → survey_name s ≡ view_name v → ⊥
survey_isnt_view s v e = view_isnt v (survey_name s) (survey_is s).1 (sym e)

extract_isnt_convert : codes "extract" ≡ codes "convert" → ⊥
extract_isnt_convert e = below 99 101 (letter 0 _ _ (sym e)) refl

extract_isnt_compare : codes "extract" ≡ codes "compare" → ⊥
extract_isnt_compare e = below 99 101 (letter 0 _ _ (sym e)) refl

compare_isnt_convert : codes "compare" ≡ codes "convert" → ⊥
compare_isnt_convert e = below 109 110 (letter 2 _ _ e) refl

import_isnt_convert : codes "import" ≡ codes "convert" → ⊥
import_isnt_convert e = below 99 105 (letter 0 _ _ (sym e)) refl

import_isnt_compare : codes "import" ≡ codes "compare" → ⊥
import_isnt_compare e = below 99 105 (letter 0 _ _ (sym e)) refl

import_isnt_extract : codes "import" ≡ codes "extract" → ⊥
import_isnt_extract e = below 101 105 (letter 0 _ _ (sym e)) refl

fault_isnt_convert : codes "fault" ≡ codes "convert" → ⊥
fault_isnt_convert e = below 99 102 (letter 0 _ _ (sym e)) refl

fault_isnt_import : codes "fault" ≡ codes "import" → ⊥
fault_isnt_import e = below 102 105 (letter 0 _ _ e) refl

fault_isnt_compare : codes "fault" ≡ codes "compare" → ⊥
fault_isnt_compare e = below 99 102 (letter 0 _ _ (sym e)) refl

fault_isnt_extract : codes "fault" ≡ codes "extract" → ⊥
fault_isnt_extract e = below 101 102 (letter 0 _ _ (sym e)) refl

report_isnt_convert : codes "report" ≡ codes "convert" → ⊥
report_isnt_convert e = below 99 114 (letter 0 _ _ (sym e)) refl

report_isnt_import : codes "report" ≡ codes "import" → ⊥
report_isnt_import e = below 105 114 (letter 0 _ _ (sym e)) refl

report_isnt_compare : codes "report" ≡ codes "compare" → ⊥
report_isnt_compare e = below 99 114 (letter 0 _ _ (sym e)) refl

report_isnt_extract : codes "report" ≡ codes "extract" → ⊥
report_isnt_extract e = below 101 114 (letter 0 _ _ (sym e)) refl

-- where the names of a pair don't fit, nothing that its command asks for does
pub no_view : (r : List Row) (v : View) → ((names : Names) → AreNames r names → ⊥) → FitsNothing (Asks r (view_name v))
no_view r v none (asks.View w viewed) h = none viewed.names h.1.names
no_view r v none (asks.Batch b made) h = batch_isnt_view b v h.0
no_view r v none (asks.Convert made) h = view_isnt v (codes "convert") refl (sym h.0)
no_view r v none (asks.Import made) h = view_isnt v (codes "import") refl (sym h.0)
no_view r v none (asks.Compare made) h = view_isnt v (codes "compare") refl (sym h.0)
no_view r v none (asks.Fault made) h = view_isnt v (codes "fault") refl (sym h.0)
no_view r v none (asks.Report made) h = view_isnt v (codes "report") refl (sym h.0)
no_view r v none (asks.Extract folder) h = view_isnt v (codes "extract") refl (sym h.0)
no_view r v none (asks.Survey s surveyed) h = survey_isnt_view s v h.0

pub no_convert : (r : List Row) → ((names : Names) (name : Bor Text) → IsNewPair r names name.now → ⊥) → FitsNothing (Asks r (codes "convert"))
no_convert r none (asks.View w viewed) h = view_isnt w (codes "convert") refl h.0
no_convert r none (asks.Batch b made) h = batch_isnt b (codes "convert") refl h.0
no_convert r none (asks.Convert made) h = none made.names made.name h.1.pair
no_convert r none (asks.Import made) h = import_isnt_convert h.0
no_convert r none (asks.Compare made) h = compare_isnt_convert h.0
no_convert r none (asks.Fault made) h = fault_isnt_convert h.0
no_convert r none (asks.Report made) h = report_isnt_convert h.0
no_convert r none (asks.Extract folder) h = extract_isnt_convert h.0
no_convert r none (asks.Survey s surveyed) h = survey_isnt s (codes "convert") refl h.0

pub no_import : (r : List Row) → ((names : Names) (name : Bor Text) → IsNewPair r names name.now → ⊥) → FitsNothing (Asks r (codes "import"))
no_import r none (asks.View w viewed) h = view_isnt w (codes "import") refl h.0
no_import r none (asks.Batch b made) h = batch_isnt b (codes "import") refl h.0
no_import r none (asks.Convert made) h = import_isnt_convert (sym h.0)
no_import r none (asks.Import made) h = none made.names made.name h.1.pair
no_import r none (asks.Compare made) h = import_isnt_compare (sym h.0)
no_import r none (asks.Fault made) h = fault_isnt_import h.0
no_import r none (asks.Report made) h = report_isnt_import h.0
no_import r none (asks.Extract folder) h = import_isnt_extract (sym h.0)
no_import r none (asks.Survey s surveyed) h = survey_isnt s (codes "import") refl h.0

pub no_compare : (r : List Row) → ((made : Compared) → IsCompared r made → ⊥) → FitsNothing (Asks r (codes "compare"))
no_compare r none (asks.View w viewed) h = view_isnt w (codes "compare") refl h.0
no_compare r none (asks.Batch b made) h = batch_isnt b (codes "compare") refl h.0
no_compare r none (asks.Convert made) h = compare_isnt_convert (sym h.0)
no_compare r none (asks.Import made) h = import_isnt_compare h.0
no_compare r none (asks.Compare made) h = none made h.1
no_compare r none (asks.Fault made) h = fault_isnt_compare h.0
no_compare r none (asks.Report made) h = report_isnt_compare h.0
no_compare r none (asks.Extract folder) h = extract_isnt_compare h.0
no_compare r none (asks.Survey s surveyed) h = survey_isnt s (codes "compare") refl h.0

pub no_extract : (r : List Row) → None ≡ first_of (codes "DIR") r → FitsNothing (Asks r (codes "extract"))
no_extract r none (asks.View w viewed) h = view_isnt w (codes "extract") refl h.0
no_extract r none (asks.Batch b made) h = batch_isnt b (codes "extract") refl h.0
no_extract r none (asks.Convert made) h = extract_isnt_convert (sym h.0)
no_extract r none (asks.Import made) h = import_isnt_extract h.0
no_extract r none (asks.Compare made) h = extract_isnt_compare (sym h.0)
no_extract r none (asks.Fault made) h = fault_isnt_extract h.0
no_extract r none (asks.Report made) h = report_isnt_extract h.0
no_extract r none (asks.Extract folder) h = absurd (let e = none ∙ h.1 in cc)
no_extract r none (asks.Survey s surveyed) h = survey_isnt s (codes "extract") refl h.0

-- nor where no command has the name
pub no_command : (r : List Row) (verb : Text) → ((v : View) → view_name v ≡ verb → ⊥) → ((b : Batch) → batch_name b ≡ verb → ⊥)
    → ((s : Survey) → survey_name s ≡ verb → ⊥)
    → (codes "convert" ≡ verb → ⊥) → (codes "import" ≡ verb → ⊥) → (codes "compare" ≡ verb → ⊥) → (codes "fault" ≡ verb → ⊥)
    → (codes "report" ≡ verb → ⊥) → (codes "extract" ≡ verb → ⊥)
    → FitsNothing (Asks r verb)
no_command r verb view batch survey convert importing compare fault report extract (asks.View w viewed) h = view w h.0
no_command r verb view batch survey convert importing compare fault report extract (asks.Batch b made) h = batch b h.0
no_command r verb view batch survey convert importing compare fault report extract (asks.Convert made) h = convert h.0
no_command r verb view batch survey convert importing compare fault report extract (asks.Import made) h = importing h.0
no_command r verb view batch survey convert importing compare fault report extract (asks.Compare made) h = compare h.0
no_command r verb view batch survey convert importing compare fault report extract (asks.Fault made) h = fault h.0
no_command r verb view batch survey convert importing compare fault report extract (asks.Report made) h = report h.0
no_command r verb view batch survey convert importing compare fault report extract (asks.Extract folder) h = extract h.0
no_command r verb view batch survey convert importing compare fault report extract (asks.Survey s surveyed) h = survey s h.0

-- a name and rows that are those of what a parse met
pair : (o : Option (Text × List Row)) (verb : Text) (r : List Row) → Some verb ≡ option_map (λ p. p.0) o → Some r ≡ option_map (λ p. p.1) o → o ≡ Some (verb, r)
pair None verb r e h = search rules
pair (Some p) verb r e h = search rules

name_in : (m : ArgMatches) → subcommand_name_of m ≡ option_map (λ p. p.0) (subcommand_rows_of m)
name_in m = search rules

-- what is asked of a command's matches is asked of the command that the parse met
pub asks_met : (m : ArgMatches) (r : List Row) (verb : Text) (o : Option Asked) → Some verb ≡ subcommand_name_of m
    → Some r ≡ option_map (λ p. p.1) (subcommand_rows_of m)
    → MatchOption o (FitsNothing (Asks r verb)) (Asks r verb)
    → MatchOption o (FitsNothing (AsksAs (subcommand_rows_of m))) (AsksAs (subcommand_rows_of m))
asks_met m r verb o e h given = rw (pair (subcommand_rows_of m) verb r (e ∙ name_in m) h) given

-- what is done where the parse finds nothing to tell
pub done : (o p : Option (Text × List Row)) (found : Kinds) (a : Answer) → o ≡ p → found ≡ [] → Does o a → DoneAbout found p a
done o p found (Do x) e none h = (none, rw (← e) h)
done o p found (Print x) e none h = absurd h
done o p found (Refuse x) e none h = inl (none, rw (← e) h)

-- what is done where it finds something
pub told : (o : Option (Text × List Row)) (found : Kinds) (kind : ErrorKind) (a : Answer)
    → (kind ≡ OutOfMemory) ⊎ IsAmong kind found → Tells kind a → DoneAbout found o a
told o found kind (Do x) among h = absurd h
told o found kind (Print x) (inl dry) h = absurd (let e : is_text OutOfMemory ≡ true = sym (ap is_text dry) ∙ h in cc)
told o found kind (Print x) (inr among) h = record { kind = kind; among = among; text = h }
told o found kind (Refuse x) (inl dry) h = absurd (h.1 dry)
told o found kind (Refuse x) (inr among) h = inr (record { kind = kind; among = among; text = h.0 })

-- what is done is done about the words of the command that was parsed
pub answers : (words : List Text) (command : Command) (answer : Answer) → IsKinded program command
    → DoneAbout (fault_of (app_of command) words) (subcommand_of (app_of command) words) answer → AnswersTo words answer
answers words command answer is h = record {
  kinds = is.kinds;
  are_kinds = is.words;
  done = subst (λ (a : App). DoneAbout (fault_of a words) (subcommand_of a words) answer) is.command.app h;
}

no_globals : (a b : Bool) → a ≡ false → b ≡ false → (a || b) ≡ false
no_globals a b e h = rw (e, h) refl

-- a command with one below it more
pub added : (a s : App) (old sub new : Command) → IsCommand a old → IsCommand s sub → AddsSubcommand old sub new → IsCommand (with_subcommand a s.top) new
added a s old sub new is_old is_sub h = record {
  app = h.shape is_sub.local ∙ ap₂ with_subcommand is_old.app (ap (λ (x : App). x.top) is_sub.app);
  local = h.globals ∙ no_globals _ _ is_old.local is_sub.local;
}

-- a command with an argument more
pub with_arg : (a : App) (r : Rule) (old new : Command) (arg : Arg) → IsCommand a old → rule_of arg ≡ r → arg.global ≡ false → AddsArg old arg new
    → IsCommand (with_rule a r) new
with_arg a r old new arg is_old rule local h = record {
  app = h.shape local ∙ ap₂ with_rule is_old.app rule;
  local = h.globals ∙ no_globals _ _ is_old.local local;
}

-- a parse reads the program's words as clap's definitions say
is_program : (kinds : Bor (List (Bor (List ℕ)))) → is_simple (program kinds) ≡ true
unfolding clap_on_literals
is_program kinds = refl

pub reads : (command : Command) → IsKinded program command → is_simple (app_of command) ≡ true
reads command is = ap is_simple is.command.app ∙ is_program is.kinds

-- nor has an argument a rule on another
is_free : (kinds : Bor (List (Bor (List ℕ)))) → is_simple_and_free (program kinds) ≡ true
unfolding clap_on_literals
is_free kinds = refl

pub reads_freely : (command : Command) → IsKinded program command → is_simple_and_free (app_of command) ≡ true
reads_freely command is = ap is_simple_and_free is.command.app ∙ is_free is.kinds
