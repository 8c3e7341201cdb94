use Rattle.std.proofs.Common.{◌≡◌, ℕ, List, string_bytes, inr, arith}
use Rattle.std.proofs.lemmas.Result.{IfOk-weaker}
use Rattle.session.specs.Transcript.{Answering, Transcript}
use Rattle.session.proofs.OneTranscript.{one_transcript}
use Rattle.session.proofs.session.transcript.Goals as goal

pub returns-clause-only : goal.returns-clause-only
returns-clause-only c =
    IfOk-weaker c.answers.result (λ s. Answering c.args.script.now (string_bytes s)) (λ s. (t : List ℕ) → Transcript c.args.script.now t → t ≡ string_bytes s)
    (λ s h t other. one_transcript c.args.script.now t (string_bytes s) other (inr (omega arith, h))) c.answers.ensures
