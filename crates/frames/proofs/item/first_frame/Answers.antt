use Rattle.std.proofs.Common.{◌≡◌, ℕ, ◌<◌, ◌≢◌, get_or, take, sym, ap, ◌∙◌, subst, rules}
use Rattle.std.proofs.lemmas.Result.{err_from_is_err_and}
use Rattle.frames.specs.Head.{head_length, head_kind}
use Rattle.frames.specs.Items.{TellsBody, BodyDamage}
use Rattle.frames.specs.Stream.{First, told_of}
use Rattle.frames.proofs.Fronts.{front_damage, front_record, front_other}
use Rattle.frames.proofs.Streams.{no_frame}
use Rattle.frames.proofs.item.first_frame.Goals as goal
use Rattle.frames.proofs.item.first_frame.Goals.{in-1+in_ok-item-in-1, in_default}

pub returns-in_err-item-in-1 : goal.returns-in_err-item-in-1
returns-in_err-item-in-1 g c =
    let p = err_from_is_err_and c.from_residual-in_err-item-in-1.result c.from_residual-in_err-item-in-1.ensures.1 in
    let h = c.in_ok-size.ensures in
    let kind : head_kind c.args.bytes.now ≡ 1 = sym h.kind_is ∙ c.in-1.is in
    let body = subst (λ n. BodyDamage g.L.Length.meaning (take n c.args.bytes.now) c.in_err-item-in-1.field-0.0) h.size_is c.in_err-item-in-1.ensures in
    rw (p.1, p.2) (no_frame g.L.Length.lawful _ _ (front_damage g.L.Length.meaning c.args.bytes.now _ h.whole kind body))

pub returns : goal.returns
returns g c =
    let bytes = c.args.bytes.now in
    let h = c.in_ok-size.ensures in
    let small : (i : ℕ) → get_or bytes i 0 < 256 = λ i. (c.type_inv.bytes i).fits in
    let whole : First g.L.Length.meaning bytes (head_length bytes) (told_of c.match-kind.item) =
    elim c.match-kind.branch [
      | in-1+in_ok-item-in-1 v ↦
          (let body = subst (λ n. TellsBody g.L.Length.meaning (take n bytes) (told_of v.in_ok-item-in-1.item)) h.size_is v.in_ok-item-in-1.ensures in
          subst (λ i. First g.L.Length.meaning bytes (head_length bytes) (told_of i)) (sym v.item-is) (front_record g.L.Length.meaning bytes _ small h.whole (sym h.kind_is ∙ v.in-1.is) body))
      | in_default v ↦
          (let other : c.in_ok-size.field-0.kind ≢ 1 = search rules in
          subst (λ i. First g.L.Length.meaning bytes (head_length bytes) (told_of i)) (sym v.item-is) (front_other g.L.Length.meaning bytes _ _ h.whole (sym h.kind_is) other (ap (λ n. take n bytes) h.size_is)))
    ]
    in
    subst (λ n. First g.L.Length.meaning bytes n (told_of c.match-kind.item)) (sym h.size_is) whole
