use Rattle.std.proofs.Common.{◌≡◌, ℕ, true, ◌&&◌, ◌||◌, eqb, ltb, Some, None, Option, MatchOption, ◌∙◌, arith, rules}
use Rattle.network.specs.declared.End.{End}
use Rattle.sets.specs.Sets.{has}
use Rattle.hall.specs.Hall.{far_in}
use Rattle.hall.specs.declared.tables.Hall.{Hall}
use Rattle.hall.proofs.Nearby.{kept_in, port_more, far_board}
use Rattle.hall.proofs.tables.Hall.with_neighbours.Goals as goal

-- the far board at a port joins the set, where there is one
joined : {V : Type 0} (h : Hall V) (b m r t n : ℕ) (far : Option End) (Far : End → Type 0) → far ≡ far_in h b m → MatchOption far (n ≡ b) Far → ((x : End) → Far x → n ≡ x.board) → ((c : ℕ) → has t c ≡ (has r c || (eqb c n && ltb n 64))) → (e : End) → far_in h b m ≡ Some e → has t e.board ≡ true
joined h b m r t n None Far at found is w e there = let z : ◌≡◌ {A = ℕ} 0 1 = let x = at ∙ there in cc in absurd (omega arith)
joined h b m r t n (Some x) Far at found is w e there = far_board h b m r t n x at (is x found) w e there

pub loop-port-preserved : goal.loop-port-preserved
loop-port-preserved g c =
    let h = c.args.self.now in
    let b = c.args.board in
    let m = c.loop-port.port in
    let r = c.loop-port.near in
    let t = c.with-near.result in
    let far = joined h b m r t c.map_or.result c.far-end.result _ c.far-end.ensures c.map_or.ensures (λ x p. search rules) c.with-near.ensures in
    port_more h c.args.set b m r t c.loop-port.invariant c.with-near.type_inv (λ x in-r. c.with-near.ensures x ∙ kept_in (has r x) _ in-r) far
