-- Items have one session.
use Rattle.std.proofs.Common.{◌≡◌, ◌∙◌, refl, sym, ap, subst, ℕ, List, [], ◌∷◌, Option, Some, None}
use Rattle.gno_base.specs.declared.names.NamedText.{NamedText}
use Rattle.gno_script.specs.declared.item.Item.{Item}
use Rattle.gno_script.specs.declared.item.Item.TheVariants.{Add, Call, Reload}
use Rattle.gno_reading.proofs.OneReading.{one_reading}
use Rattle.gno_items.specs.Adding.{IsAdded, IsAddedBehind, added_reading, path_refusal}
use Rattle.gno_items.specs.Memory.{with_package}
use Rattle.gno_items.specs.Session.{IsSessionFrom, Replied, Replies, Session, behind, shown}
use Rattle.gno_items.specs.declared.adding.Added.{Added}
use Rattle.gno_items.specs.declared.memory.Package.{Package}

one_added_behind : (refused : Option ℕ) (budget : ℕ) (path : List ℕ) (file : NamedText) (end other : Added) → IsAddedBehind refused budget path file end → IsAddedBehind refused budget path file other → end ≡ other
one_added_behind (Some code) budget path file end other h h' = h ∙ sym h'
one_added_behind None budget path file end other (reading, r, e) (reading', r', e') = e ∙ ap (added_reading budget path file) (one_reading file.text reading reading' r r') ∙ sym e'

one_reply : (memory : List Package) (done : ℕ) (item : Item) (reply other : Replied) → Replies memory done item reply → Replies memory done item other → reply ≡ other
one_reply memory done (Add budget caller path file) reply other (end, a, e) (end', a', e') =
    let same = one_added_behind (path_refusal memory path) budget path file end end' a a' in
    e ∙ ap (λ (end : Added). shown done (Add budget caller path file) end.reply (with_package memory end.held)) same ∙ sym e'
one_reply memory done (Call budget caller path function) reply other e e' = e ∙ sym e'
one_reply memory done Reload reply other e e' = e ∙ sym e'

one_session_from : (memory : List Package) (done : ℕ) (items : List Item) (session other : Session) → IsSessionFrom memory done items session → IsSessionFrom memory done items other → session ≡ other
one_session_from memory done [] session other e e' = e ∙ sym e'
one_session_from memory done (item ∷ items) session other (reply, rest, r, k, e) (reply', rest', r', k', e') =
    let same = one_reply memory done item reply reply' r r' in
    let later : IsSessionFrom reply.memory reply.done items rest' = subst (λ (it : Replied). IsSessionFrom it.memory it.done items rest') (sym same) k' in
    let rests = one_session_from reply.memory reply.done items rest rest' k later in
    e ∙ (λ i. behind (same i) (rests i)) ∙ sym e'

pub one_session : (memory : List Package) (items : List Item) (session other : Session) → IsSessionFrom memory 0 items session → IsSessionFrom memory 0 items other → session ≡ other
one_session memory items session other h h' = one_session_from memory 0 items session other h h'
