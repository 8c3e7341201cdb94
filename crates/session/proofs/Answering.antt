-- Commands and lines, as the session goes through them.
use Rattle.std.proofs.Common.{◌≡◌, ℕ, ◌+◌, List, [], ◌∷◌, ◌++◌, Option, Result, sym, ap, ◌∙◌, subst, append_assoc, append-nil, arith}
use Rattle.words.specs.Lines.{FirstLine, Lines}
use Rattle.commands.specs.declared.command.Command.{Command}
use Rattle.commands.specs.declared.command.Command.TheVariants.{New}
use Rattle.commands.specs.declared.command.Kind.{Kind}
use Rattle.session.specs.Answers.{Commands, Does, Answered}
use Rattle.session.specs.Texts.{Appends}
use Rattle.session.specs.Transcript.{Answers, nothing, answer, Answering}
use Rattle.session.specs.declared.fault.ScriptFault.{ScriptFault}
use Rattle.session.specs.declared.halls.AnyHall.{AnyHall}
use Rattle.session.specs.declared.obey.Reply.{Reply}

-- a command other than `new` wants a hall
pub does_other : (command : Command) (before : Option AnyHall) (r : Result Reply ScriptFault) (after : Option AnyHall) → ((n : ℕ) (kind : Kind) → command ≡ New n kind → ⊥) → Commands command before r after → Does command before r after
does_other command before r after other h = grind arith

-- whatever answers the rest, from this number and hall on, answers the whole script after what is written
abbrev pub GoesOn : List ℕ → List ℕ → ℕ → Option AnyHall → List ℕ → Type 0
GoesOn script rest number hall out = (lines : List (List ℕ)) (more : List ℕ) → Lines lines rest → Answers number hall lines more → Answering script (out ++ more)

-- one more line
pub next : (script rest line after : List ℕ) (number : ℕ) (hall left : Option AnyHall) (out written : List ℕ) → FirstLine line after rest → Appends (Answered number line hall left) out written → GoesOn script rest number hall out → GoesOn script after (number + 1) left written
next script rest line after number hall left out written first said inv lines more split h =
    let whole = inv (line ∷ lines) (said.0 ++ more) (after, first, split) (answer left said.0 said.1 h) in
    subst (Answering script) (sym (ap (λ l. l ++ more) said.2 ∙ append_assoc out said.0 more)) whole

-- no more lines
pub end : (script rest : List ℕ) (number : ℕ) (hall : Option AnyHall) (out : List ℕ) → rest ≡ [] → GoesOn script rest number hall out → Answering script out
end script rest number hall out none inv = subst (Answering script) (append-nil out) (inv [] [] none nothing)
