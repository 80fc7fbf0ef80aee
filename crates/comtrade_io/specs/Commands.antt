-- The program's commands, as a parse sees them.
use Rattle.std.specs.Prelude.{◌≡◌, ℕ, List, [], ◌∷◌, Some, map, codes, true, false}
use Rattle.std.specs.Borrow.{Bor}
use Rattle.clap.specs.Words.{App, Rule, Text, app_of, new_app, new_rule, with_rule, with_subcommand}
use Rattle.clap.specs.Simple.{on_top}
use Rattle.clap.specs.declared.builder.command.Command.{Command}
use Rattle.clap.specs.declared.builder.command.Command.TheViews.{out-Command as fields_of}
use Rattle.clap.specs.declared.builder.action.ArgAction.TheVariants.{Append, SetTrue}
use Rattle.clap.specs.declared.builder.value_parser.ValueParser.TheVariants.{Names}

-- a word that has to be there
abbrev pub word : Text → Rule
word name = record (new_rule name) { required = true }

-- a word that may be there
abbrev pub free_word : Text → Rule
free_word name = new_rule name

-- one word or more
abbrev pub words : Text → Rule
words name = record (word name) { action = Some Append }

-- --name with a value
abbrev pub option : Text → Rule
option name = record (new_rule name) { long = Some name; value_names = 1 }

-- the same, any number of times
abbrev pub repeated : Text → Rule
repeated name = record (option name) { action = Some Append }

-- --name without one
abbrev pub flag : Text → Rule
flag name = record (new_rule name) { long = Some name; action = Some SetTrue }

-- -o or --output, with the file that the output goes to
abbrev pub output : Rule
output = record (option (codes "output")) { short = Some 111 }

-- -r or --recursive
abbrev pub recursive : Rule
recursive = record (flag (codes "recursive")) { short = Some 114 }

-- --kind, whose words are these
abbrev pub kind_word : Bor (List (Bor (List ℕ))) → Rule
kind_word kinds = record (word (codes "KIND")) {
  long = Some (codes "kind");
  parser = Some (Names kinds);
}

-- how texts are spelled
abbrev pub with_encoding : App → App
with_encoding a = with_rule a (option (codes "encoding"))

-- which part of a record is meant, on which side, and how its files are read
abbrev pub with_part : App → App
with_part a = with_encoding (with_rule (with_rule (with_rule (with_rule (with_rule (with_rule (with_rule a
    (option (codes "from"))) (option (codes "to"))) (option (codes "channels")))
    (flag (codes "changed"))) (flag (codes "primary"))) (flag (codes "secondary"))) (flag (codes "strict")))

-- how a picture is drawn
abbrev pub with_picture : App → App
with_picture a = with_rule (with_rule (with_rule (with_rule (with_rule a
    (flag (codes "whole"))) (flag (codes "all"))) (option (codes "width"))) (option (codes "height"))) (flag (codes "print"))

-- a moment, the channel from which angles are counted, the line frequency, and the channels of three phases
abbrev pub with_cursor : App → App
with_cursor a = with_rule (with_rule (with_rule (with_rule a
    (option (codes "at"))) (option (codes "reference"))) (option (codes "frequency"))) (option (codes "phases"))

-- whether it is printed as JSON
abbrev pub with_json : App → App
with_json a = with_rule a (flag (codes "json"))

-- where the output goes
abbrev pub with_output : App → App
with_output a = with_rule a output

-- how a table of values is written
abbrev pub with_table : App → App
with_table a = with_rule (with_rule a (option (codes "separator"))) (option (codes "decimal"))

-- a command over a pair of files
abbrev pub over_pair : Text → App
over_pair name = with_rule (with_rule (new_app name) (word (codes "FILE"))) (free_word (codes "DAT"))

-- the same over a part of a pair
abbrev pub over_part : Text → App
over_part name = with_part (over_pair name)

-- the commands that print what is in a pair
abbrev pub show : App
show = with_output (with_json (over_part (codes "show")))

abbrev pub csv : App
csv = with_output (with_table (over_part (codes "csv")))

-- a file of detectors, and a pair
abbrev pub detect_lines : App
detect_lines = with_rule (new_app (codes "detect")) (word (codes "LINES"))

abbrev pub detect : App
detect = with_output (with_json (with_rule (with_rule detect_lines (word (codes "FILE"))) (free_word (codes "DAT"))))

-- a command that writes a pair: with three names the second is the data file's
abbrev pub over_new : App → App
over_new a = with_rule (with_rule (with_rule a
    (word (codes "FILE"))) (word (codes "NAME"))) (free_word (codes "LAST"))

abbrev pub convert_names : App
convert_names = over_new (new_app (codes "convert"))

abbrev pub convert_kind : Bor (List (Bor (List ℕ))) → App
convert_kind kinds = with_rule convert_names (kind_word kinds)

abbrev pub convert : Bor (List (Bor (List ℕ))) → App
convert kinds = with_part (convert_kind kinds)

abbrev pub import_names : App
import_names = over_new (new_app (codes "import"))

-- which of month and day comes first, the repairs that are refused, and how texts are spelled
abbrev pub importing : App
importing = with_encoding (with_rule (with_rule import_names (option (codes "dates"))) (repeated (codes "refuse")))

abbrev pub extract : App
extract = with_rule (new_app (codes "extract")) (word (codes "DIR"))

-- a command over folders and files
abbrev pub named : Text → App
named name = with_rule (with_rule (new_app name) (words (codes "NAMES"))) recursive

-- the same over a part of each record
abbrev pub over_parts : Text → App
over_parts name = with_part (named name)

-- the commands that print something of each record
abbrev pub check : App
check = with_output (with_json (named (codes "check")))

abbrev pub plot : App
plot = with_output (with_picture (over_parts (codes "plot")))

abbrev pub page : App
page = with_output (over_parts (codes "page"))

abbrev pub measure : App
measure = with_output (with_json (with_cursor (over_parts (codes "measure"))))

-- which records and events are meant: those of some time, and of some stations
abbrev pub with_filter : App → App
with_filter a = with_rule (with_rule (with_rule a
    (option (codes "from"))) (option (codes "to"))) (option (codes "station"))

abbrev pub over_names : Text → App
over_names name = with_output (with_encoding (with_json (with_filter (named name))))

-- the records with such a current
abbrev pub list : App
list = with_rule (over_names (codes "list")) (option (codes "min-current"))

-- the events of some kinds, as a table of comma-separated values where that is asked for
abbrev pub events : App
events = with_rule (with_rule (over_names (codes "events")) (option (codes "type"))) (flag (codes "csv"))

-- the faults of many records, in a block for each where that is asked for, and where they are on a line
abbrev pub fault_names : App
fault_names = with_rule (with_rule (named (codes "fault")) (flag (codes "long"))) (option (codes "line"))

abbrev pub fault : App
fault = with_output (with_encoding (with_json fault_names))

-- a report on many records
abbrev pub report : App
report = with_output (with_encoding (named (codes "report")))

-- two records
abbrev pub compare_names : App
compare_names = with_rule (with_rule (with_rule (with_rule (with_rule (new_app (codes "compare"))
    (word (codes "A"))) (word (codes "B"))) (option (codes "by"))) (option (codes "shift"))) (option (codes "map"))

abbrev pub compare : App
compare = with_output (with_picture (with_part compare_names))

-- a command that wants one of those below it
abbrev pub with_choice : App → App
with_choice a = on_top (λ s. record s {
  no_binary_name = true;
  arg_required_else_help = true;
  subcommand_required = true;
}) a

-- the program's name and version
abbrev pub named_top : App
named_top = on_top (λ s. record s { has_version = true }) (new_app (codes "comtrade"))

abbrev pub top : App
top = with_choice named_top

-- the program's commands
abbrev pub views : App → App
views a = with_subcommand (with_subcommand (with_subcommand (with_subcommand (with_subcommand a
    show.top) check.top) csv.top) plot.top) page.top

abbrev pub surveys : App → App
surveys a = with_subcommand (with_subcommand (with_subcommand (with_subcommand (with_subcommand a
    list.top) events.top) fault.top) report.top) compare.top

abbrev pub program : Bor (List (Bor (List ℕ))) → App
program kinds = with_subcommand (with_subcommand (with_subcommand (with_subcommand (with_subcommand (surveys (views top))
    measure.top) detect.top) (convert kinds).top) importing.top) extract.top

-- the words for kinds of data
abbrev pub AreKinds : Bor (List (Bor (List ℕ))) → Type 0
AreKinds kinds = map (λ s. s.now) kinds.now ≡ codes "ascii" ∷ codes "binary" ∷ []

-- a parse sees the command so
pub record IsCommand (a : App) (c : Command) : Type 0 where
  pub app : app_of c ≡ a
  pub local : (fields_of c).has_globals ≡ false

-- a parse sees the command as one over these words for kinds
pub record IsKinded (over : Bor (List (Bor (List ℕ))) → App) (c : Command) : Type 0 where
  pub kinds : Bor (List (Bor (List ℕ)))
  pub words : AreKinds kinds
  pub command : IsCommand (over kinds) c
