-- What a command says, and the three kinds of it: done, refused, misused.
use Rattle.std.specs.Prelude.{◌≡◌, List, [], ◌∷◌, ◌++◌, cond, ℕ, leb, length, drop}
use Rattle.printing.specs.Lines.{refused_line}
use Rattle.outcomes.specs.declared.Status.{Status}
use Rattle.outcomes.specs.declared.Status.TheVariants as status
use Rattle.outcomes.specs.declared.Reply.{Reply}
use Rattle.outcomes.specs.Texts.{ascii, text_part}

-- an exit status, and the bytes for standard output and for standard error
pub record Outcome : Type 0 where
  pub status : ℕ
  pub out : List ℕ
  pub err : List ℕ

-- the exit status of each way to end
abbrev pub exit_status : Status → ℕ
exit_status status.Done = 0
exit_status status.Refused = 1
exit_status status.Misused = 2

-- what is handed back with an answer of so many bytes, with a refusal, and where arguments are wrong
abbrev pub done_reply : (out : ℕ) → Reply
done_reply out = record { status = status.Done; out = out; err = 0 }

abbrev pub refused_reply : (out err : ℕ) → Reply
refused_reply out err = record { status = status.Refused; out = out; err = err }

abbrev pub misused_reply : (err : ℕ) → Reply
misused_reply err = record { status = status.Misused; out = 0; err = err }

-- an outcome is handed back: its bytes stand at the start of the two buffers, the rest of which is kept
pub record Told (o : Outcome) (out err out_after errAfter : List ℕ) (r : Reply) : Type 0 where
  pub status : exit_status r.status ≡ o.status
  pub out_size : r.out ≡ length o.out
  pub err_size : r.err ≡ length o.err
  pub out_bytes : out_after ≡ o.out ++ drop (length o.out) out
  pub err_bytes : errAfter ≡ o.err ++ drop (length o.err) err

-- a line on standard error starts with the program's name
abbrev pub error_line : List ℕ → List ℕ
error_line words = ascii "overlay: " ++ words ++ 10 ∷ []

-- what each cause means, by its number: a line each, from 0
unfoldable pub cause_lines : List ℕ
cause_lines = ascii "other\n"
    ++ ascii "the plan has not 2 to 6 layers\n"
    ++ ascii "a layer has more than 512 rectangles, or more than 512 records are kept\n"
    ++ ascii "the cells are not four for each rectangle\n"
    ++ ascii "a coordinate is not from -10000000 to 10000000, left is greater than right or bottom greater than top\n"
    ++ ascii "the order is not the sweep order of the plan\n"
    ++ ascii "the ticket is none of this plan\n"
    ++ ascii "there are more rows than 12288 / k, k being the number of layers; overlay pairs has no such limit\n"
    ++ ascii "the order buffer has not one cell for each rectangle\n"
    ++ ascii "the text is not well formed (overlay check tells the line)\n"
    ++ ascii "the text is well formed, but layers or rectangles are miscounted, or a number is out of range or out of order (overlay check tells the line)\n"
    ++ ascii "the cells are too few\n"
    ++ ascii "the text is longer than the buffer\n"
    ++ ascii "the input has more than 65536 bytes\n"
    ++ ascii "the box has left greater than right, bottom greater than top or a coordinate out of range\n"
    ++ ascii "the plan has fewer than three layers\n"
    ++ ascii "the last two layers are not segments without margin: east to west (bottom = top) in the last but one, north to south (left = right) in the last\n"
    ++ ascii "a margin is greater than 50000\n"
    ++ ascii "the ticket is not the newest of its run\n"
    ++ ascii "the work buffer is shorter than two cells for each row\n"
    ++ ascii "the corners are not four a record, or one is not finite, out of order or beyond ten million\n"
    ++ ascii "a stop is not finite, or the lower one of a strip is greater than the upper one\n"
    ++ ascii "a round has not 1 to 16 clients, or its budget or its records are wrong\n"
    ++ ascii "there is not one place for each layer, or a place is not in its layer\n"
    ++ ascii "there is not one window for each rectangle, or one does not end behind its start within the week of 10080 minutes\n"

-- the number of a cause's line
abbrev pub cause_line : (cause : ℕ) → ℕ
cause_line cause = cond (leb cause 24) cause 0

-- a cause in words
unfoldable pub cause_text : (cause : ℕ) → List ℕ
cause_text cause = text_part 10 (cause_line cause) cause_lines

-- a refusal: its line as 01 has it, lines on standard error that say why, status 1
unfoldable pub refused_with : (cause : ℕ) → (lines : List ℕ) → Outcome
refused_with cause lines = record { status = 1; out = refused_line cause; err = lines }

-- a refusal that says what its number means
unfoldable pub refused : (cause : ℕ) → Outcome
refused cause = refused_with cause (error_line (cause_text cause))

-- wrong arguments: what is wanted, in words on standard error, status 2
unfoldable pub misused : (words : List ℕ) → Outcome
misused words = record { status = 2; out = []; err = error_line words }

-- an answer, status 0
unfoldable pub done : (bytes : List ℕ) → Outcome
done bytes = record { status = 0; out = bytes; err = [] }
