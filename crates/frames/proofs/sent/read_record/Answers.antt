use Rattle.std.proofs.Common.{◌≡◌, ℕ, ◌<◌, length, get_or, Some, None, arith, rules}
use Rattle.std.proofs.lemmas.Result.{err_from_is_err_and}
use Rattle.rules.specs.Status.{number_of}
use Rattle.frames.specs.Record.{Fields, code_in}
use Rattle.frames.specs.declared.fault.FrameFault.TheVariants.{Code}
use Rattle.frames.proofs.Records.{body_read, accepts, refuses}
use Rattle.frames.proofs.sent.read_record.Goals as goal

pub returns-in_err-length : goal.returns-in_err-length
returns-in_err-length g c =
    let p = err_from_is_err_and c.from_residual-in_err-length.result c.from_residual-in_err-length.ensures.1 in
    let none : g.L.Length.meaning.decoded (code_in c.args.frame.now) ≡ None = search rules in
    let fields : Fields c.args.frame.now = search rules in
    let code : c.in_err-length.field-0.0 ≡ Code = grind arith in
    rw (p.1, p.2, code) (refuses g.L.Length.lawful _ Code (fields, none))

pub returns : goal.returns
returns g c =
    let frame = c.args.frame.now in
    let long : length frame ≡ 16 = search rules in
    let small : (i : ℕ) → i < 16 → get_or frame i 0 < 256 = search rules in
    let fields : Fields frame = search rules in
    let status : number_of c.in_ok-status.status ≡ get_or frame 4 0 = search rules in
    let code : g.L.Length.meaning.decoded (code_in frame) ≡ Some c.in_ok-length.length = search rules in
    accepts g.L.Length.lawful frame _ _ fields.port (body_read g.L.Length.lawful frame long (λ i _. small i) fields _ status _ code)
