-- What the words after the program's name ask for.
use Rattle.std.specs.Prelude.{◌≡◌, ◌≢◌, ◌↔◌, ◌⊎◌, ℕ, Bool, true, false, List, [], Option, Some, None, codes, map, option_map, unwrap_or, IfSome}
use Rattle.std.specs.Borrow.{Bor}
use Rattle.clap.specs.Words.{Kinds, IsAmong, Row, Text, all_of, fault_of, first_of, subcommand_of}
use Rattle.clap.specs.declared.error.kind.ErrorKind.{ErrorKind}
use Rattle.clap.specs.declared.error.kind.ErrorKind.TheVariants as fault
use Rattle.comtrade_format.specs.declared.file.Kind.TheVariants as kind
use Rattle.comtrade_io.specs.declared.words.Names.{Names}
use Rattle.comtrade_io.specs.declared.words.Part.{Part}
use Rattle.comtrade_io.specs.declared.words.Form.{Form}
use Rattle.comtrade_io.specs.declared.words.Picture.{Picture}
use Rattle.comtrade_io.specs.declared.words.Cursor.{Cursor}
use Rattle.comtrade_io.specs.declared.words.View.{View}
use Rattle.comtrade_io.specs.declared.words.Viewed.{Viewed}
use Rattle.comtrade_io.specs.declared.words.Batch.{Batch}
use Rattle.comtrade_io.specs.declared.words.Batched.{Batched}
use Rattle.comtrade_io.specs.declared.words.Converted.{Converted}
use Rattle.comtrade_io.specs.declared.words.Importing.{Importing}
use Rattle.comtrade_io.specs.declared.words.Compared.{Compared}
use Rattle.comtrade_io.specs.declared.words.Diagnosed.{Diagnosed}
use Rattle.comtrade_io.specs.declared.words.Reported.{Reported}
use Rattle.comtrade_io.specs.declared.words.Survey.{Survey}
use Rattle.comtrade_io.specs.declared.words.Surveyed.{Surveyed}
use Rattle.comtrade_io.specs.declared.words.Asked.{Asked}
use Rattle.comtrade_io.specs.declared.words.Asked.TheVariants as asks
use Rattle.comtrade_io.specs.declared.command_line.asked.Answer.{Answer}
use Rattle.comtrade_io.specs.declared.command_line.asked.Answer.TheVariants.{Do, Print, Refuse}
use Rattle.comtrade_io.specs.Verbs.{view_name, batch_name, survey_name, data_name, pair_name}
use Rattle.comtrade_io.specs.Commands.{AreKinds, program}

-- the text that was given for an argument, if any was
abbrev pub IsOption : List Row → Text → Option (Bor Text) → Type 0
IsOption rows id text = option_map (λ s. s.now) text ≡ first_of id rows

-- whether a flag was given
abbrev pub IsFlag : List Row → Text → Bool → Type 0
IsFlag rows id set = (set ≡ true) ↔ (first_of id rows ≡ Some (codes "true"))

-- standard input is one of two files at most
abbrev pub IsNamed : Text → Option Text → Type 0
IsNamed file dat = file ≡ codes "-" → IfSome dat (λ other. other ≢ codes "-")

-- what the files of a pair are called, by the words that were given for FILE and DAT
pub record AreNames (rows : List Row) (names : Names) : Type 0 where
  pub file : first_of (codes "FILE") rows ≡ Some names.file.now
  pub dat : IsOption rows (codes "DAT") names.dat
  pub named : IsNamed names.file.now (option_map (λ s. s.now) names.dat)

-- which part of a record is meant, and how its files are read
pub record ArePart (rows : List Row) (part : Part) : Type 0 where
  pub from : IsOption rows (codes "from") part.from
  pub to : IsOption rows (codes "to") part.to
  pub channels : IsOption rows (codes "channels") part.channels
  pub changed : IsFlag rows (codes "changed") part.changed
  pub primary : IsFlag rows (codes "primary") part.primary
  pub secondary : IsFlag rows (codes "secondary") part.secondary
  pub strict : IsFlag rows (codes "strict") part.strict
  pub encoding : IsOption rows (codes "encoding") part.encoding

-- how a table of values is written
pub record AreForm (rows : List Row) (form : Form) : Type 0 where
  pub separator : IsOption rows (codes "separator") form.separator
  pub decimal : IsOption rows (codes "decimal") form.decimal

-- a moment, the channel from which angles are counted, the line frequency, and the channels of three phases
pub record AreCursor (rows : List Row) (cursor : Cursor) : Type 0 where
  pub at : IsOption rows (codes "at") cursor.at
  pub reference : IsOption rows (codes "reference") cursor.reference
  pub frequency : IsOption rows (codes "frequency") cursor.frequency
  pub phases : IsOption rows (codes "phases") cursor.phases

-- how a picture is drawn
pub record ArePicture (rows : List Row) (picture : Picture) : Type 0 where
  pub whole : IsFlag rows (codes "whole") picture.whole
  pub all : IsFlag rows (codes "all") picture.all
  pub width : IsOption rows (codes "width") picture.width
  pub height : IsOption rows (codes "height") picture.height
  pub print : IsFlag rows (codes "print") picture.print

pub record IsViewed (rows : List Row) (v : Viewed) : Type 0 where
  pub names : AreNames rows v.names
  pub part : ArePart rows v.part
  pub form : AreForm rows v.form
  pub lines : IsOption rows (codes "LINES") v.lines
  pub json : IsFlag rows (codes "json") v.json
  pub output : IsOption rows (codes "output") v.output

-- two or three names: the pair's, its data file's where there are three, and the new pair's
pub record IsNewPair (rows : List Row) (names : Names) (new : Text) : Type 0 where
  pub file : first_of (codes "FILE") rows ≡ Some names.file.now
  pub second : Text
  pub second_given : first_of (codes "NAME") rows ≡ Some second
  pub dat : option_map (λ s. s.now) names.dat ≡ data_name second (first_of (codes "LAST") rows)
  pub named : IsNamed names.file.now (option_map (λ s. s.now) names.dat)
  pub last : new ≡ pair_name second (first_of (codes "LAST") rows)

pub record IsConverted (rows : List Row) (made : Converted) : Type 0 where
  pub pair : IsNewPair rows made.names made.name.now
  pub data_kind : (made.kind ≡ kind.Binary) ↔ (first_of (codes "KIND") rows ≡ Some (codes "binary"))
  pub part : ArePart rows made.part

-- the same, which of month and day comes first in dates, the repairs that are refused, in their order, and how texts are spelled
pub record IsImporting (rows : List Row) (made : Importing) : Type 0 where
  pub pair : IsNewPair rows made.names made.name.now
  pub dates : IsOption rows (codes "dates") made.dates
  pub refused : map (λ s. s.now) made.refused.items ≡ unwrap_or (all_of (codes "refuse") rows) []
  pub encoding : IsOption rows (codes "encoding") made.encoding

-- two records, and how they are laid beside each other
pub record IsCompared (rows : List Row) (made : Compared) : Type 0 where
  pub one : first_of (codes "A") rows ≡ Some made.one.now
  pub other : first_of (codes "B") rows ≡ Some made.other.now
  pub by : IsOption rows (codes "by") made.by
  pub shift : IsOption rows (codes "shift") made.shift
  pub pairs : IsOption rows (codes "map") made.pairs
  pub part : ArePart rows made.part
  pub picture : ArePicture rows made.picture
  pub output : IsOption rows (codes "output") made.output

-- the names that were given, in their order
abbrev pub AreAll : List Row → List Text → Type 0
AreAll rows names = names ≡ unwrap_or (all_of (codes "NAMES") rows) []

-- records, a part of each, and what is printed of it
pub record IsBatched (rows : List Row) (made : Batched) : Type 0 where
  pub names : AreAll rows (map (λ s. s.now) made.names.items)
  pub recursive : IsFlag rows (codes "recursive") made.recursive
  pub part : ArePart rows made.part
  pub picture : ArePicture rows made.picture
  pub cursor : AreCursor rows made.cursor
  pub json : IsFlag rows (codes "json") made.json
  pub output : IsOption rows (codes "output") made.output

-- records whose faults are told, and how
pub record IsDiagnosed (rows : List Row) (made : Diagnosed) : Type 0 where
  pub names : AreAll rows (map (λ s. s.now) made.names.items)
  pub recursive : IsFlag rows (codes "recursive") made.recursive
  pub long : IsFlag rows (codes "long") made.long
  pub line : IsOption rows (codes "line") made.line
  pub json : IsFlag rows (codes "json") made.json
  pub encoding : IsOption rows (codes "encoding") made.encoding
  pub output : IsOption rows (codes "output") made.output

-- records of which a report is made
pub record IsReported (rows : List Row) (made : Reported) : Type 0 where
  pub names : AreAll rows (map (λ s. s.now) made.names.items)
  pub recursive : IsFlag rows (codes "recursive") made.recursive
  pub encoding : IsOption rows (codes "encoding") made.encoding
  pub output : IsOption rows (codes "output") made.output

-- many records, those that are meant, and how they are listed
pub record IsSurveyed (rows : List Row) (made : Surveyed) : Type 0 where
  pub names : AreAll rows (map (λ s. s.now) made.names.items)
  pub recursive : IsFlag rows (codes "recursive") made.recursive
  pub from : IsOption rows (codes "from") made.from
  pub to : IsOption rows (codes "to") made.to
  pub station : IsOption rows (codes "station") made.station
  pub least_current : IsOption rows (codes "min-current") made.least_current
  pub kinds : IsOption rows (codes "type") made.kinds
  pub json : IsFlag rows (codes "json") made.json
  pub csv : IsFlag rows (codes "csv") made.csv
  pub encoding : IsOption rows (codes "encoding") made.encoding
  pub output : IsOption rows (codes "output") made.output

-- what a command asks for, by the words that were given for its arguments
abbrev pub Asks : List Row → Text → Asked → Type 0
Asks rows verb (asks.View v viewed) = (view_name v ≡ verb) × IsViewed rows viewed
Asks rows verb (asks.Batch b made) = (batch_name b ≡ verb) × IsBatched rows made
Asks rows verb (asks.Convert made) = (codes "convert" ≡ verb) × IsConverted rows made
Asks rows verb (asks.Import made) = (codes "import" ≡ verb) × IsImporting rows made
Asks rows verb (asks.Compare made) = (codes "compare" ≡ verb) × IsCompared rows made
Asks rows verb (asks.Fault made) = (codes "fault" ≡ verb) × IsDiagnosed rows made
Asks rows verb (asks.Report made) = (codes "report" ≡ verb) × IsReported rows made
Asks rows verb (asks.Extract folder) = (codes "extract" ≡ verb) × (first_of (codes "DIR") rows ≡ Some folder.now)
Asks rows verb (asks.Survey s made) = (survey_name s ≡ verb) × IsSurveyed rows made

-- the same, of a command that a parse met
abbrev pub AsksAs : Option (Text × List Row) → Asked → Type 0
AsksAs None asked = ⊥
AsksAs (Some met) asked = Asks met.1 met.0 asked

-- nothing fits
abbrev pub FitsNothing : (Asked → Type 0) → Type 0
FitsNothing P = (asked : Asked) → P asked → ⊥

-- help and the version are texts that words ask for; else they are wrong
abbrev pub is_text : ErrorKind → Bool
is_text fault.DisplayHelp = true
is_text fault.DisplayVersion = true
is_text _ = false

-- a parse finds something of this kind, which is or isn't a text that words ask for
pub record FindsText (found : Kinds) (asked : Bool) : Type 0 where
  pub kind : ErrorKind
  pub among : IsAmong kind found
  pub text : is_text kind ≡ asked

-- what is done where a parse finds nothing to tell: what was asked for, or a refusal where nothing was
abbrev pub Does : Option (Text × List Row) → Answer → Type 0
Does met (Do asked) = AsksAs met asked
Does met (Print text) = ⊥
Does met (Refuse text) = FitsNothing (AsksAs met)

-- what is done where a parse finds an error of this kind
abbrev pub Tells : ErrorKind → Answer → Type 0
Tells kind (Do asked) = ⊥
Tells kind (Print text) = is_text kind ≡ true
Tells kind (Refuse text) = (is_text kind ≡ false) × (kind ≢ fault.OutOfMemory)

-- what is done, by what a parse may find and by the command that it meets
abbrev pub DoneAbout : Kinds → Option (Text × List Row) → Answer → Type 0
DoneAbout found met (Do asked) = (found ≡ []) × AsksAs met asked
DoneAbout found met (Print text) = FindsText found true
DoneAbout found met (Refuse text) = ((found ≡ []) × FitsNothing (AsksAs met)) ⊎ FindsText found false

-- what is done is what the words ask for, by the program's commands
pub record AnswersTo (words : List Text) (answer : Answer) : Type 0 where
  pub kinds : Bor (List (Bor (List ℕ)))
  pub are_kinds : AreKinds kinds
  pub done : DoneAbout (fault_of (program kinds) words) (subcommand_of (program kinds) words) answer
