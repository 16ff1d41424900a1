-- The text of answers and lists.
use Rattle.std.specs.Prelude.{ℕ, true, false, List, [], ◌∷◌, ◌++◌, Option, Result, OnOk, codes, decimal, map}
use Rattle.std.specs.Io.KnownBytes.{Appends}
use Rattle.std.specs.List.{join_with_byte}
use Rattle.lock_event.specs.declared.event.Entry.{Entry}
use Rattle.lock_event.specs.declared.event.Mark.{Mark}
use Rattle.lock_event.specs.declared.event.Mark.TheVariants as mark
use Rattle.world_base.specs.declared.moves.Answer.{Answer}
use Rattle.world_base.specs.declared.moves.Answer.TheVariants as answer
use Rattle.world_base.specs.declared.moves.Got.{Got}
use Rattle.world_base.specs.declared.moves.Got.TheVariants as got
use Rattle.lockrun_play.specs.declared.played.Reply.{Reply}
use Rattle.lockrun_play.specs.declared.played.Reply.TheVariants as reply

-- the writer got this text and a line feed, the byte 10, where it took them
abbrev pub Prints : {E : Type 0} → Option (List ℕ) → Option (List ℕ) → Result (Unit {0}) E → List ℕ → Type 0
Prints old new r text = OnOk r (Appends old new (text ++ 10 ∷ []))

-- what a call got, after the word that says how it succeeded
abbrev pub got_text : Got → List ℕ
got_text got.Plain = []
got_text (got.Value v) = codes " " ++ decimal v
got_text (got.Leader true) = codes " leader"
got_text (got.Leader false) = codes " follower"
got_text (got.Taken v) = codes " taken " ++ decimal v
got_text got.Failed = codes " failed"

-- the answer of a move
abbrev pub answer_text : Answer → List ℕ
answer_text answer.Stepped = codes "stepped"
answer_text answer.Pending = codes "pending"
answer_text (answer.Ready g) = codes "ready" ++ got_text g
answer_text (answer.Granted g) = codes "granted" ++ got_text g
answer_text answer.None = codes "none"
answer_text answer.GivenBack = codes "given back"
answer_text answer.Waiting = codes "waiting"
answer_text (answer.Refused n) = codes "refused " ++ decimal n
answer_text answer.NotPossible = codes "not possible"

-- the reply to what is asked from outside every call
abbrev pub reply_text : Reply → List ℕ
reply_text reply.Done = codes "ok"
reply_text reply.Nothing = codes "none"
reply_text (reply.Value v) = decimal v
reply_text reply.NotPossible = codes "not possible"

-- what a party has been told, as one letter
abbrev pub mark_text : Mark → List ℕ
mark_text mark.Waiting = codes "w"
mark_text mark.Notified = codes "n"
mark_text mark.Additional = codes "a"

-- an entry: the party, and what it has been told
abbrev pub entry_text : Entry ℕ → List ℕ
entry_text e = decimal e.key ++ mark_text e.mark

-- a list in its brackets, with a space, the byte 32, between any two entries
abbrev pub list_text : List (Entry ℕ) → List ℕ
list_text entries = codes "[" ++ join_with_byte 32 (map entry_text entries) ++ codes "]"
