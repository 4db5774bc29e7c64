use Rattle.mwc_states.proofs.Imports.{◌∙◌, ◌≡◌, Bool, true, List, [], length, map, get_or, refl, sym, ap, arith, length-map, votes_of}
use Rattle.mwc_states.proofs.Imports.{IsGraphOf}
use Rattle.mwc_states.specs.Inner.Tables.{state_of}
use Rattle.council_game.specs.Votes.{has}
use Rattle.mwc_states.proofs.Coalitions.{counted-few, counted-nonempty, sizes-are, set-at}
use Rattle.mwc_states.specs.Inner.Sets.{has as set_has}
use Rattle.mwc_states.proofs.count.count_sets.Goals as goal

pub returns : goal.returns
returns g c =
    let v = votes_of c.args.game.now in
    let votes = c.was_checked.ensures.votes in
    let members = c.in_ok-members.members.items in
    let state = c.in_ok-state.state.items in
    let start = c.in_ok-state.ensures in
    let levels = map (λ l. l.items) c.build.new.levels.items in
    let rows = c.in_ok-members.ensures in
    let graph : IsGraphOf c.args.what members (state_of c.args.what start.needs) levels = rw start.same at (rw (c.deref.ensures.value, c.deref-2.ensures.value) at (c.in_ok-build.ensures c.if-not-branch.false)) in
    let long : length levels ≡ v.members = graph.long ∙ rows.long in
    let same = λ (xs : List Bool) (full : length xs ≡ v.members). graph.accepts_all xs (full ∙ sym rows.long) in
    let few : length c.build.new.levels.items ≡ v.members = sym (length-map c.build.new.levels.items (λ l. l.items)) ∙ long in
    record {
      few = counted-few c.args.what c.args.game.now c.was_checked.ensures.game;
      coalitions = counted-nonempty c.args.what c.args.game.now c.was_checked.ensures.game;
      all = sizes-are v members start.needs votes rows start.are c.args.what c.requires levels (λ _. true) (λ _. true) c.in_ok-count.field-0.all long same (λ _. refl)
          (rw c.deref-3.ensures.value at c.in_ok-count.ensures.all);
      each = λ p lt. sizes-are v members start.needs votes rows start.are c.args.what c.requires levels (set_has p) (has v.members p) (get_or c.in_ok-count.field-0.each p []) long
          same (λ m. set-at v.members m p lt)
          (rw c.deref-3.ensures.value at (c.in_ok-count.ensures.each p (omega (arith, lt, few, ap length c.deref-3.ensures.value))));
    }
