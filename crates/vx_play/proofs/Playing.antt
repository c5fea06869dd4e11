-- Steps of playing one line.
use Rattle.std.proofs.Common.{◌≡◌, ◌<◌, ℕ, ◌∙◌, List, [], ◌∷◌, ◌++◌, Option, Some, None, Ok, Err, ap, sym, subst, refl, append-nil, inl, inr}
use Rattle.std.specs.Prelude.{◌^◌}
use Rattle.std.specs.List.{All, flat_map}
use Rattle.std.proofs.lemmas.List.{append_assoc}
use Rattle.std.proofs.lemmas.List.Elements.{All-append, All-cons, All-nil}
use Rattle.std.specs.Io.KnownBytes.{Appends}
use Rattle.std.proofs.KnownBytes.{Appends-nil}
use Rattle.vx_script.specs.declared.Cause.{Cause}
use Rattle.vx_script.specs.declared.Cause.TheVariants as cause
use Rattle.vx_script.specs.declared.Version.{Version}
use Rattle.vx_script.specs.declared.Version.TheVariants as version
use Rattle.vx_script.specs.Command.{Command, At, step_shown}
use Rattle.vx_script.specs.declared.Step.{Step}
use Rattle.vx_script.specs.Grammar.{Reading, Skipped, Does, Outside, reading}
use Rattle.vx_script.specs.Timed.{Timed, Blank, DoesAt, Strange, timed}
use Rattle.vx_script.specs.Reads.{Reads, ReadsAt}
use Rattle.vx_setup.specs.Script.{commands, commands_read, commands_timed}
use Rattle.vx_setup.proofs.Laws.Scripts.{doing}
use Rattle.vx_trace.specs.Text.{HasRanges, line_text, line_text2}
use Rattle.vx_setup.specs.declared.stops.Refusal.{Refusal}
use Rattle.vx_setup.specs.declared.stops.Refusal.TheVariants as stops
use Rattle.vx_text.specs.Ends.{End}
use Rattle.vx_text.specs.Writing.{StopsIn}
use Rattle.vx_run.specs.Item.{Item}
use Rattle.vx_run.specs.RunText.{IsPrintable, item_text}
use Rattle.vx_player.specs.declared.note.StepMade.{StepMade}
use Rattle.vx_play.specs.declared.run.LineEnd.{LineEnd}
use Rattle.vx_play.specs.declared.run.LineEnd.TheVariants as line_end
use Rattle.vx_player.specs.Stage.{Stage, refusal}
use Rattle.vx_player.specs.Play.{PlayerTakes}
use Rattle.vx_player.specs.PlayerState.{PlayerState}
use Rattle.vx_player.specs.Printing.{made_text, HasMadeRanges}
use Rattle.vx_player.specs.Upholding.{ArePrintable}
use Rattle.vx_player.specs.Standing.{PlayerStands, TakesTo, made_lines2}
use Rattle.vx_player.specs.Wanting.{StopsFor, WantsMemory}
use Rattle.vx_play.specs.StepPlayed.{IsTaken, IsWritten, IsCutShort, EndsStep}
use Rattle.vx_play.specs.LinePlayed.{TakesAll, IsFrontOf, PlayEndsLine}

-- ---- one step

-- the text of what a step made is that of its item
text-of : (v : Version) (stage : Stage) (command : Command) (made : StepMade) (player : PlayerState) → (t : TakesTo stage command made player)
    → made_text v player made ≡ item_text v t.item
text-of version.One stage command made player t = ap (flat_map line_text) (sym t.lines_are)
text-of version.Two stage command made player t =
    ap (λ m. flat_map (line_text2 m) (made_lines2 player made)) (sym t.moment_is) ∙ ap (flat_map (line_text2 t.item.moment)) (sym t.lines2_are)

-- the item of a step whose lines are in their ranges can be printed
item-printable : (stage : Stage) (command : Command) (made : StepMade) (player : PlayerState) (t : TakesTo stage command made player) → HasMadeRanges player made
    → All IsPrintable (t.item ∷ [])
item-printable stage command made player t ranges =
    All-cons IsPrintable t.item []
    (record { moment = subst (λ m. m < 2 ^ 64) (sym t.moment_is) ranges.moment; lines = subst (All HasRanges) (sym t.lines2_are) ranges.lines }) (All-nil IsPrintable)

abbrev taken : (v : Version) (stage : Stage) (command : Command) (made : StepMade) (player : PlayerState) → TakesTo stage command made player
    → (v ≡ version.Two → HasMadeRanges player made) → IsTaken v stage command
taken v stage command made player t ranges = record {
  item = t.item;
  after = t.after;
  command_is = t.command_is;
  takes = t.takes;
  printable = λ is. item-printable stage command made player t (ranges is);
}

-- a step that was taken, and its text written
pub step-written : (v : Version) (stage : Stage) (command : Command) (made : StepMade) (player : PlayerState) (before after : End) → TakesTo stage command made player
    → (v ≡ version.Two → HasMadeRanges player made) → Appends before.bytes after.bytes (made_text v player made) → IsWritten v stage command player before after
step-written v stage command made player before after t ranges put = record {
  taken = taken v stage command made player t ranges;
  stands = t.stands;
  written = subst (Appends before.bytes after.bytes) (text-of v stage command made player t) put;
}

-- and one at whose text the sink failed
pub step-cut : (v : Version) (stage : Stage) (command : Command) (made : StepMade) (player : PlayerState) (before after : End) → TakesTo stage command made player
    → (v ≡ version.Two → HasMadeRanges player made) → StopsIn before after (made_text v player made) → IsCutShort v stage command before after
step-cut v stage command made player before after t ranges put = record {
  taken = taken v stage command made player t ranges;
  stops = subst (StopsIn before after) (text-of v stage command made player t) put;
}

-- one that is refused, and one that wants memory
pub step-refused : (stage : Stage) (command : Command) (stop : Refusal) (why : Cause) (bytes : Option (List ℕ)) → StopsFor stage command stop → stop ≡ stops.Refused why
    → (refusal stage command ≡ Some why) × Appends bytes bytes []
step-refused stage command stop why bytes h is = (subst (StopsFor stage command) is h, Appends-nil bytes)

pub step-wants : (stage : Stage) (command : Command) (stop : Refusal) (bytes : Option (List ℕ)) → StopsFor stage command stop → stop ≡ stops.NoMemory
    → WantsMemory stage command × Appends bytes bytes []
step-wants stage command stop bytes h is = (subst (StopsFor stage command) is h, Appends-nil bytes)

-- ---- a line, by its one step

-- what is written of one item
one-text : (v : Version) (item : Item) → item_text v item ≡ flat_map (item_text v) (item ∷ [])
one-text v item = sym (append-nil (item_text v item))

-- Commands in front that make no text, and the step behind them.
module _ (v : Version) (said : Option (List Command)) (front : List Command) (command : Command) (says : said ≡ Some (front ++ command ∷ [])) (stage mid : Stage) (quiet : List Item)
    (took : TakesAll stage front quiet mid) (silent : flat_map (item_text v) quiet ≡ []) (plain : ArePrintable v quiet) where
  all-taken : (item : Item) (after : Stage) → item.command ≡ command → PlayerTakes mid item after → TakesAll stage (front ++ command ∷ []) (quiet ++ item ∷ []) after
  all-taken item after is takes = by stage front quiet took where
    by : (before : Stage) (front : List Command) (quiet : List Item) → TakesAll before front quiet mid
        → TakesAll before (front ++ command ∷ []) (quiet ++ item ∷ []) after
    by before [] [] same = (is, after, subst (λ s. PlayerTakes s item after) same takes, refl)
    by before [] (i ∷ items) h = absurd h
    by before (c ∷ commands) [] h = absurd h
    by before (c ∷ commands) (i ∷ items) (first, next, took, rest) = (first, next, took, by next commands items rest)

  all-printable : (item : Item) → ArePrintable v (item ∷ []) → ArePrintable v (quiet ++ item ∷ [])
  all-printable item printable = λ is. All-append IsPrintable quiet (item ∷ []) (plain is) (printable is)

  quiet-text : (item : Item) → flat_map (item_text v) (quiet ++ item ∷ []) ≡ item_text v item
  quiet-text item = text-behind v quiet item ∙ ap (λ xs. xs ++ item_text v item) silent where
    text-behind : (v : Version) (items : List Item) (item : Item) → flat_map (item_text v) (items ++ item ∷ []) ≡ flat_map (item_text v) items ++ item_text v item
    text-behind v [] item = append-nil (item_text v item)
    text-behind v (i ∷ items) item = ap (λ xs. item_text v i ++ xs) (text-behind v items item) ∙ sym (append_assoc (item_text v i) (flat_map (item_text v) items) (item_text v item))

  pub line-ended : (player : PlayerState) (before after : End) (result : LineEnd) → EndsStep v command mid player before after result
      → PlayEndsLine v said stage player before after result
  line-ended player before after line_end.Played h = record {
    commands = front ++ command ∷ [];
    said_is = says;
    front = record {
      items = quiet ++ h.taken.item ∷ [];
      after = h.taken.after;
      takes = all-taken h.taken.item h.taken.after h.taken.command_is h.taken.takes;
      printable = all-printable h.taken.item h.taken.printable;
    };
    stands = h.stands;
    written = subst (Appends before.bytes after.bytes) (sym (quiet-text h.taken.item)) h.written;
  }
  line-ended player before after line_end.SinkFailed h = record {
    commands = front ++ command ∷ [];
    said_is = says;
    front = record {
      items = quiet ++ h.taken.item ∷ [];
      after = h.taken.after;
      takes = all-taken h.taken.item h.taken.after h.taken.command_is h.taken.takes;
      printable = all-printable h.taken.item h.taken.printable;
    };
    stops = subst (StopsIn before after) (sym (quiet-text h.taken.item)) h.stops;
  }
  line-ended player before after (line_end.Refused why) h = inr (record { at = at h.1; refused = h.0 }) where
    at : Appends before.bytes after.bytes [] → IsFrontOf v said stage before after
    at unwritten = record {
      commands = front;
      command = command;
      later = [];
      said_is = says;
      front = record { items = quiet; after = mid; takes = took; printable = plain };
      written = subst (Appends before.bytes after.bytes) (sym silent) unwritten;
    }
  line-ended player before after line_end.NoMemory h = record {
    at = record {
      commands = front;
      command = command;
      later = [];
      said_is = says;
      front = record { items = quiet; after = mid; takes = took; printable = plain };
      written = subst (Appends before.bytes after.bytes) (sym silent) h.1;
    };
    wants = h.0;
  }

-- a line of one step
pub plain-ended : (said : Option (List Command)) (command : Command) (stage : Stage) (player : PlayerState) (before after : End) (result : LineEnd)
    → said ≡ Some (command ∷ []) → EndsStep version.One command stage player before after result → PlayEndsLine version.One said stage player before after result
plain-ended said command stage player before after result says ends =
    line-ended version.One said [] command says stage stage [] refl refl (λ is. All-nil IsPrintable) player before after result ends

-- a line of a moment and a step
pub timed-ended : (said : Option (List Command)) (moment : ℕ) (command : Command) (made : StepMade) (stage : Stage) (mid player : PlayerState) (before after : End) (result : LineEnd)
    → said ≡ Some (At moment ∷ command ∷ []) → TakesTo stage (At moment) made mid → made_lines2 mid made ≡ [] → mid.moment < 2 ^ 64
    → ((s : Stage) → PlayerStands mid s → EndsStep version.Two command s player before after result) → PlayEndsLine version.Two said stage player before after result
timed-ended said moment command made stage mid player before after result says t quiet timely ends =
    line-ended version.Two said (At moment ∷ []) command says stage t.after (t.item ∷ []) (t.command_is, t.after, t.takes, refl)
    (append-nil (item_text version.Two t.item) ∙ ap (flat_map (line_text2 t.item.moment)) (t.lines2_are ∙ quiet))
    (λ is. item-printable stage (At moment) made mid t (record { moment = timely; lines = subst (All HasRanges) (sym quiet) (All-nil HasRanges) }))
    player before after result (ends t.after t.stands)

-- a line that says nothing
pub nothing-ended : (v : Version) (said : Option (List Command)) (stage : Stage) (player : PlayerState) (ends : End) → said ≡ Some [] → PlayerStands player stage
    → PlayEndsLine v said stage player ends ends line_end.Played
nothing-ended v said stage player ends says stands = record {
  commands = [];
  said_is = says;
  front = record { items = []; after = stage; takes = refl; printable = λ is. All-nil IsPrintable };
  stands = stands;
  written = Appends-nil ends.bytes;
}

-- a line outside the grammar
pub outside-ended : (v : Version) (said : Option (List Command)) (stage : Stage) (player : PlayerState) (ends : End) → said ≡ None
    → PlayEndsLine v said stage player ends ends (line_end.Refused cause.Form)
outside-ended v said stage player ends says = inl (record { outside = says; form = refl; unwritten = Appends-nil ends.bytes })

-- ---- what was read of a line

-- a line of version 1 of which a step was read
pub plain-said : (line : List ℕ) (found : Option Step) (step : Step) → Reads (reading line) (Ok found) → found ≡ Some step → commands version.One line ≡ Some (step_shown step ∷ [])
plain-said line found step reads some = ap commands_read (doing (reading line) found step reads some)

-- a line of version 2 of which a moment and a step were read, or nothing
pub timed-said : (line : List ℕ) (found : Option (ℕ × Step)) (moment : ℕ) (step : Step) → ReadsAt (timed line) (Ok found) → found ≡ Some (moment, step)
    → commands version.Two line ≡ Some (At moment ∷ step_shown step ∷ [])
timed-said line found moment step reads some =
    ap commands_timed (by (timed line) (subst (λ (o : Option (ℕ × Step)). ReadsAt (timed line) (Ok o)) some reads)) where
      by : (says : Timed) → ReadsAt says (Ok (Some (moment, step))) → says ≡ DoesAt moment (step_shown step)
      by Blank reads = absurd reads
      by (DoesAt m command) reads = ap (λ n. DoesAt n command) (sym reads.0) ∙ ap (DoesAt moment) (sym reads.1)
      by Strange reads = absurd reads

-- a line of version 1 that is refused is outside the grammar
pub plain-strange : (line : List ℕ) (why : Cause) (stage : Stage) (player : PlayerState) (ends : End) → Reads (reading line) (Err why)
    → PlayEndsLine version.One (commands version.One line) stage player ends ends (line_end.Refused why)
plain-strange line why stage player ends reads = by (reading line) reads where
  by : (says : Reading) → Reads says (Err why) → PlayEndsLine version.One (commands_read says) stage player ends ends (line_end.Refused why)
  by Skipped reads = absurd reads
  by (Does command) reads = absurd reads
  by Outside reads = inl (record { outside = refl; form = reads; unwritten = Appends-nil ends.bytes })

-- a line of version 2 that is refused is outside the grammar
pub strange-ended : (line : List ℕ) (why : Cause) (stage : Stage) (player : PlayerState) (ends : End) → ReadsAt (timed line) (Err why)
    → PlayEndsLine version.Two (commands version.Two line) stage player ends ends (line_end.Refused why)
strange-ended line why stage player ends reads = by (timed line) reads where
  by : (says : Timed) → ReadsAt says (Err why) → PlayEndsLine version.Two (commands_timed says) stage player ends ends (line_end.Refused why)
  by Blank reads = absurd reads
  by (DoesAt moment command) reads = absurd reads
  by Strange reads = inl (record { outside = refl; form = reads; unwritten = Appends-nil ends.bytes })
