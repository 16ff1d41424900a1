-- A text that is at fault: which of its lines is bad where it stands, and why.
use Rattle.std.proofs.Common.{◌≡◌, ℕ, suc, ◌+◌, ◌<◌, ◌≤◌, Bool, true, false, ltb, List, [], ◌∷◌, ◌++◌, length, get_or, take, refl, sym, subst, ◌∙◌, ap, arith, append_assoc, false-eqb, length-append, length-drop, inl, inr}
use Rattle.std.specs.Prelude.{◌==◌, Option, Some, None, Result, Ok, Err, ◌⊎◌, IfErr, IfSome}
use Rattle.std.specs.Io.KnownBytes.{Appends, Keeps}
use Rattle.std.specs.List.{before_first, after_first, position_or_len}
use Rattle.std.proofs.lemmas.Bool.{ltb-true, ltb-false}
use Rattle.std.proofs.lemmas.List.{append-nil}
use Rattle.std.proofs.lemmas.Result.{IfErr-at_err}
use Rattle.std.proofs.lemmas.List.Splits.{slice_split_first}
use Rattle.lockrun_play.specs.declared.world.World.{World}
use Rattle.lockrun_script.specs.declared.command.Command.{Command}
use Rattle.lockrun_script.specs.declared.command.Command.TheVariants.{New, On}
use Rattle.lockrun_script.specs.declared.command.Model.TheVariants.{Mutex, RwLock, Semaphore, Cell, Barrier, Pool}
use Rattle.lockrun_script.specs.declared.command.Request.{Request}
use Rattle.lockrun_script.specs.declared.command.Request.TheVariants.{Step, Whole, Put, Take, Show}
use Rattle.world_base.specs.declared.moves.What.TheVariants.{Begin, Go}
use Rattle.lockrun_script.specs.Verbs.{name_of}
use Rattle.lockrun_script.specs.Commands.{verb_of, Asks}
use Rattle.lockrun_script.specs.Lines.{lines_of, words_of, is_byte, IsPrintable, IsSkipped, IsTrimmed}
use Rattle.lockrun_script.proofs.Lines.{words-first}
use Rattle.lockrun_play.specs.declared.fault.Fault.{Fault}
use Rattle.lockrun_play.specs.declared.fault.Fault.TheVariants.{Usage, Read, TooLong, BadLine, Write, Memory, Thread}
use Rattle.lockrun_play.specs.declared.script.TheConstants.{LIMIT}
use Rattle.lockrun_play.specs.Faults.{status_of}
use Rattle.lockrun_play.specs.Plays.{Plays, PlaysLine, IsBad, StopsAtBadLine, IsAtFault, Tells, TellsOfLine}
use Rattle.lockrun_play.specs.Scripts.{IsLine, IsStartOfScript}
use Rattle.lockrun_play.proofs.Texts.{Appends-more}
use Rattle.lockrun_play.proofs.Plays.{Appends-nothing, none_after}

-- no command's name begins with 35, the first byte of a comment
no_comment : (command : Command) (rest : List ℕ) → name_of (verb_of command) ≡ 35 ∷ rest → ⊥
no_comment (New (Mutex parties value starved)) rest e = omega (arith, ap (λ l. get_or l 0 0) e)
no_comment (New (RwLock parties value starved readers)) rest e = omega (arith, ap (λ l. get_or l 0 0) e)
no_comment (New (Semaphore parties permits most)) rest e = omega (arith, ap (λ l. get_or l 0 0) e)
no_comment (New (Cell parties)) rest e = omega (arith, ap (λ l. get_or l 0 0) e)
no_comment (New (Barrier parties size starved generations)) rest e = omega (arith, ap (λ l. get_or l 0 0) e)
no_comment (New (Pool parties items)) rest e = omega (arith, ap (λ l. get_or l 0 0) e)
no_comment (On (Step party (Begin call inputs))) rest e = omega (arith, ap (λ l. get_or l 0 0) e)
no_comment (On (Step party (Go inputs))) rest e = omega (arith, ap (λ l. get_or l 0 0) e)
no_comment (On (Whole party call inputs)) rest e = omega (arith, ap (λ l. get_or l 0 0) e)
no_comment (On (Put value)) rest e = omega (arith, ap (λ l. get_or l 0 0) e)
no_comment (On Take) rest e = omega (arith, ap (λ l. get_or l 0 0) e)
no_comment (On Show) rest e = omega (arith, ap (λ l. get_or l 0 0) e)

-- a comment's first word begins with that byte
comment_words : (rest : List ℕ) → words_of (35 ∷ rest) ≡ (35 ∷ before_first (is_byte 32) rest) ∷ words_of (after_first (is_byte 32) (35 ∷ rest))
comment_words rest =
    let more : 1 + position_or_len (is_byte 32) rest ≡ suc (position_or_len (is_byte 32) rest) = omega arith in
    let first : before_first (is_byte 32) (35 ∷ rest) ≡ 35 ∷ before_first (is_byte 32) rest = ap (λ n. take n (35 ∷ rest)) more in
    words-first (35 ∷ rest) (omega (arith, ap length first)) ∙ ap (λ word. word ∷ words_of (after_first (is_byte 32) (35 ∷ rest))) first

-- a line that is skipped asks for nothing
pub skipped_asks : (line : List ℕ) (command : Command) → IsSkipped line → Asks (words_of line) command → ⊥
skipped_asks [] command s (others, named, details) = cc
skipped_asks (x ∷ xs) command (printable, inl none) asks = cc
skipped_asks (x ∷ xs) command (printable, inr first) (others, named, details) =
    let comment : x ≡ 35 = cc in
    let same : words_of (35 ∷ xs) ≡ name_of (verb_of command) ∷ others = subst (λ y. words_of (y ∷ xs) ≡ name_of (verb_of command) ∷ others) comment named in
    let words : (35 ∷ before_first (is_byte 32) xs) ∷ words_of (after_first (is_byte 32) (35 ∷ xs)) ≡ name_of (verb_of command) ∷ others = sym (comment_words xs) ∙ same in
    let name : name_of (verb_of command) ≡ 35 ∷ before_first (is_byte 32) xs = cc in
    no_comment command _ name

-- a line that is not skipped, and of which no command was read, is none that a script may have
pub no_line : (line : List ℕ) (parsed : Option Command) → ¬ IsSkipped line → parsed ≡ None → ((c : Command) → IsPrintable line → IsTrimmed line → Asks (words_of line) c → parsed ≡ Some c) → ¬ IsLine line
no_line line parsed s none asked (inl skipped) = s skipped
no_line line parsed s none asked (inr command) =
    let some : parsed ≡ Some command.command = asked command.command command.printable command.trimmed command.asks in
    cc

-- where a line's command was refused because no World stands, the line asks something of one
pub needs_world : {A : Type 0} (number : ℕ) (line : List ℕ) (command : Command) (world : Option World) (old new : Option (List ℕ)) (r : Result A Fault) → Asks (words_of line) command → IsPrintable line → IsTrimmed line
    → IfErr r (λ fault. TellsOfLine (λ n. (n ≡ number) × ((request : Request) × (command ≡ On request) × (world ≡ None))) fault old new)
    → IfErr r (λ fault. TellsOfLine (λ n. (n ≡ number) × IsBad line world) fault old new)
needs_world number line command world old new (Ok v) asks printable trimmed h = tt
needs_world number line command world old new (Err (BadLine n)) asks printable trimmed ((same, needs), keeps) =
    ((same, inr (record { asked = record { command = command; asks = asks; printable = printable; trimmed = trimmed }; request = needs.0; on = needs.1 }, needs.2)), keeps)
needs_world number line command world old new (Err Memory) asks printable trimmed h = h
needs_world number line command world old new (Err Write) asks printable trimmed h = tt
needs_world number line command world old new (Err TooLong) asks printable trimmed h = absurd h
needs_world number line command world old new (Err Read) asks printable trimmed h = absurd h
needs_world number line command world old new (Err Usage) asks printable trimmed h = absurd h
needs_world number line command world old new (Err Thread) asks printable trimmed h = absurd h

-- nothing is lost, and nothing comes
pub Keeps-same : (a : Option (List ℕ)) → Keeps a a
Keeps-same None = tt
Keeps-same (Some xs) = refl

-- what was appended is what the writer still has
pub Appends-kept : (a b c : Option (List ℕ)) (bs : List ℕ) → Appends a b bs → Keeps b c → Appends a c bs
Appends-kept None b c bs h k = tt
Appends-kept (Some xs) None c bs h k = absurd h
Appends-kept (Some xs) (Some ys) None bs h k = absurd k
Appends-kept (Some xs) (Some ys) (Some zs) bs h k = k ∙ h

-- one line more is played
plays_push : (lines : List (List ℕ)) (line : List ℕ) (old mid new : Option World) (bytes more : List ℕ) → Plays lines old mid bytes → PlaysLine line mid new more → Plays (lines ++ line ∷ []) old new (bytes ++ more)
plays_push [] line old mid new bytes more (kept, none) played = (new, more, [], subst (λ w. PlaysLine line w new more) kept played, (refl, refl), ap (λ bs. bs ++ more) none ∙ sym (append-nil more))
plays_push (first ∷ lines) line old mid new bytes more (next, one, others, plays, rest, e) played =
    (next, one, others ++ more, plays, plays_push lines line next mid new others more rest played, ap (λ bs. bs ++ more) e ∙ append_assoc one others more)

-- the lines before the rest, so many, whose lines follow them unless it is empty; they were played, and led to the World that stands now
pub record HasCome (number : ℕ) (text rest : List ℕ) (world : Option World) (old now : Option (List ℕ)) : Type 0 where
  pub before : List (List ℕ)
  pub numbered : number ≡ length before
  pub stands : 0 < length rest → lines_of text ≡ before ++ lines_of rest
  pub bytes : List ℕ
  pub plays : Plays before None world bytes
  pub printed : Appends old now bytes

pub come_none : (text : List ℕ) (now : Option (List ℕ)) → HasCome 0 text text None now now
come_none text now = record { before = []; numbered = refl; stands = λ some. refl; bytes = []; plays = (refl, refl); printed = Appends-nothing now }

-- a text's lines are the one before its first line feed and, where something stands after that, the lines of it
first_line : (rest : List ℕ) (b : Bool) → ltb (position_or_len (is_byte 10) rest) (length rest) ≡ b → (others : List (List ℕ)) × (lines_of rest ≡ before_first (is_byte 10) rest ∷ others) × (0 < length (after_first (is_byte 10) rest) → others ≡ lines_of (after_first (is_byte 10) rest))
first_line rest true e = (lines_of (after_first (is_byte 10) rest), slice_split_first (is_byte 10) rest 0 (ltb-true _ _ e), λ some. refl)
first_line rest false e =
    let far = none_after rest (ltb-false _ _ e) in
    ([], far.2 ∙ ap (λ line. line ∷ []) (sym far.0), λ some. absurd (omega (arith, some, ap length far.1)))

-- what follows the first line of the rest is at least a byte shorter
pub after_shorter : (p : ℕ → Bool) (rest after : List ℕ) (number all : ℕ) → after ≡ after_first p rest → 0 < length rest → number + length rest ≤ all → number + 1 + length after ≤ all
after_shorter p rest after number all e some few = omega (arith, some, few, ap length e, length-drop (position_or_len p rest + 1) rest)

-- the first line of the rest was answered, and stands before what is left now
pub come_more : (number : ℕ) (text rest line after : List ℕ) (world mid : Option World) (old now new : Option (List ℕ)) → HasCome number text rest world old now → false ≡ (length rest == 0) → line ≡ before_first (is_byte 10) rest → after ≡ after_first (is_byte 10) rest → (bytes : List ℕ) × PlaysLine line world mid bytes × Appends now new bytes → HasCome (number + 1) text after mid old new
come_more number text rest line after world mid old now new h some l a (bytes, played, appended) = record {
  before = h.before ++ line ∷ [];
  numbered = omega (arith, h.numbered, length-append h.before (line ∷ []));
  stands = λ more.
      let first = first_line rest _ refl in
      let others : first.0 ≡ lines_of after = first.2 (omega (arith, more, ap length a)) ∙ ap lines_of (sym a) in
      let lines : lines_of rest ≡ line ∷ lines_of after = first.1 ∙ ap (λ x. x ∷ first.0) (sym l) ∙ ap (λ x. line ∷ x) others in
      h.stands (omega (arith, false-eqb _ 0 some)) ∙ ap (λ x. h.before ++ x) lines ∙ sym (append_assoc h.before (line ∷ []) (lines_of after));
  bytes = h.bytes ++ bytes;
  plays = plays_push h.before line None world mid h.bytes bytes h.plays played;
  printed = Appends-more old now new h.bytes bytes (h.bytes ++ bytes) h.printed appended refl;
}

-- the first line of the rest is bad, and the script stops there
come_bad : (number n : ℕ) (text rest line : List ℕ) (world : Option World) (old now new : Option (List ℕ)) → HasCome number text rest world old now → false ≡ (length rest == 0) → line ≡ before_first (is_byte 10) rest → n ≡ number + 1 → IsBad line world → Keeps now new → StopsAtBadLine n text old new
come_bad number n text rest line world old now new h some l same bad keeps =
    let first = first_line rest _ refl in
    record {
      before = h.before;
      line = line;
      after = first.0;
      stands = h.stands (omega (arith, false-eqb _ 0 some)) ∙ ap (λ x. h.before ++ x) (first.1 ∙ ap (λ x. x ∷ first.0) (sym l));
      numbered = omega (arith, same, h.numbered);
      last = world;
      bytes = h.bytes;
      plays = h.plays;
      bad = bad;
      printed = Appends-kept old now new h.bytes h.printed keeps;
    }

-- the script stops at the first line of the rest for this fault
pub come_fault : (number : ℕ) (text rest line : List ℕ) (world : Option World) (old now new : Option (List ℕ)) (fault : Fault) → HasCome number text rest world old now → false ≡ (length rest == 0) → line ≡ before_first (is_byte 10) rest → TellsOfLine (λ n. (n ≡ number + 1) × IsBad line world) fault now new → Tells fault text old new
come_fault number text rest line world old now new (BadLine n) h some l ((same, bad), keeps) = come_bad number n text rest line world old now new h some l same bad keeps
come_fault number text rest line world old now new Memory h some l keeps = record {
  before = h.before;
  after = lines_of rest;
  stands = h.stands (omega (arith, false-eqb _ 0 some));
  last = world;
  bytes = h.bytes;
  plays = h.plays;
  printed = Appends-kept old now new h.bytes h.printed keeps;
}
come_fault number text rest line world old now new Write h some l t = tt
come_fault number text rest line world old now new TooLong h some l t = absurd t
come_fault number text rest line world old now new Read h some l t = absurd t
come_fault number text rest line world old now new Usage h some l t = absurd t
come_fault number text rest line world old now new Thread h some l t = absurd t

-- known bytes stay over two steps
Keeps-more : (a b c : Option (List ℕ)) → Keeps a b → Keeps b c → Keeps a c
Keeps-more None b c h k = tt
Keeps-more (Some xs) None c h k = absurd h
Keeps-more (Some xs) (Some ys) None h k = absurd k
Keeps-more (Some xs) (Some ys) (Some zs) h k = k ∙ h

-- the writer keeps what it got while it is flushed
flushed : (fault : Fault) (text : List ℕ) (old now new : Option (List ℕ)) → Tells fault text old now → Keeps now new → Tells fault text old new
flushed (BadLine n) text old now new s keeps = record {
  before = s.before;
  line = s.line;
  after = s.after;
  stands = s.stands;
  numbered = s.numbered;
  last = s.last;
  bytes = s.bytes;
  plays = s.plays;
  bad = s.bad;
  printed = Appends-kept old now new s.bytes s.printed keeps;
}
flushed Memory text old now new s keeps = record {
  before = s.before;
  after = s.after;
  stands = s.stands;
  last = s.last;
  bytes = s.bytes;
  plays = s.plays;
  printed = Appends-kept old now new s.bytes s.printed keeps;
}
flushed TooLong text old now new (long, kept) keeps = (long, Keeps-more old now new kept keeps)
flushed Read text old now new kept keeps = Keeps-more old now new kept keeps
flushed Write text old now new t keeps = tt
flushed Usage text old now new t keeps = absurd t
flushed Thread text old now new t keeps = absurd t

-- what was read is the whole input, unless it is too long, so what the fault tells is told of the input
pub whole_fault : {A : Type 0} (input left old now new : Option (List ℕ)) (text : List ℕ) (r ended : Result A Fault) → IsStartOfScript input left text → length text ≤ LIMIT → IfErr r (λ fault. Tells fault text old now) → Keeps now new → ended ≡ r → IfErr ended (λ fault. IfSome input (λ whole. Tells fault whole old new))
whole_fault input left old now new text r (Ok v) start short told keeps e = tt
whole_fault None left old now new text r (Err fault) start short told keeps e = tt
whole_fault (Some xs) None old now new text r (Err fault) start short told keeps e = absurd start.taken
whole_fault (Some xs) (Some ys) old now new text r (Err fault) start short told keeps e =
    let all : xs ≡ text = start.taken ∙ ap (λ rest. text ++ rest) (start.whole short) ∙ append-nil text in
    flushed fault xs old now new (subst (λ t. Tells fault t old now) (sym all) (IfErr-at_err (λ f. Tells f text old now) (sym e) told)) keeps

-- nothing was answered where reading failed, or memory for what was read was refused
pub unread : (fault : Fault) (input now : Option (List ℕ)) → (fault ≡ Read) ⊎ (fault ≡ Memory) → IfSome input (λ text. Tells fault text now now)
unread fault None now e = tt
unread fault (Some text) now (inl e) = subst (λ f. Tells f text now now) (sym e) (Keeps-same now)
unread fault (Some text) now (inr e) = subst (λ f. Tells f text now now) (sym e) (record {
  before = [];
  after = lines_of text;
  stands = refl;
  last = None;
  bytes = [];
  plays = (refl, refl);
  printed = Appends-nothing now;
})

-- what a fault of status 1 tells is that the text is at fault
pub at_fault : (fault : Fault) (input old new : Option (List ℕ)) → status_of fault ≡ 1 → IfSome input (λ text. Tells fault text old new) → IfSome input (λ text. IsAtFault text old new)
at_fault fault None old new one t = tt
at_fault (BadLine n) (Some text) old new one t = inr (n, t)
at_fault TooLong (Some text) old new one t = inl t
at_fault Memory (Some text) old new one t = absurd (omega arith)
at_fault Read (Some text) old new one t = absurd (omega arith)
at_fault Write (Some text) old new one t = absurd (omega arith)
at_fault Usage (Some text) old new one t = absurd t
at_fault Thread (Some text) old new one t = absurd t
