-- A session of some first items, and one that stops behind them.
use Rattle.std.proofs.Common.{◌≡◌, ℕ, ◌+◌, ◌<◌, ◌≤◌, List, [], ◌∷◌, ◌++◌, ap, ◌∙◌, refl, sym, subst, arith, take, get_or, length, length-append}
use Rattle.std.specs.Prelude.{Bool, ◌&&◌, Option, Some, None, IsSome}
use Rattle.std.proofs.lemmas.List.{take_more}
use Rattle.std.proofs.Math.Seq.{take-append-add}
use Rattle.gno_port.specs.Streams.{Gained, with_more}
use Rattle.gno_port.specs.Tables.{Table}
use Rattle.gno_port.proofs.Steps.{with_more-with_more}
use Rattle.gno_script.specs.declared.item.Item.{Item}
use Rattle.gno_items.specs.declared.memory.Package.{Package}
use Rattle.gno_items.specs.Session.{IsSession, Replied, Replies, Session}
use Rattle.gno_table.specs.FirstFormat.{Stands}
use Rattle.gno_cmd.specs.declared.performing.Ran.{Ran}
use Rattle.gno_cmd.specs.Headline.{HasMemory, StopsBefore, StopsWithin}
use Rattle.gno_cmd.specs.Performing.{Breaks, IsPerformed, Performs}
use Rattle.gno_cmd.proofs.Running.{ComesTo, comes_push, is_session, pushed}

-- the session of these items was printed, and left the memory, the count and whether all ended in results
pub record HasCome (memory : List Package) (front : List Item) (held held' : Option (List ℕ)) (memory' : List Package) (done' : ℕ) (good : Bool) : Type 0 where
  pub session : Session
  pub comes : ComesTo memory 0 front session done'
  pub prints : Gained held held' session.text
  pub memory_is : memory' ≡ session.memory
  pub good_is : good ≡ session.good

-- the replies from where the session has come to
replies_there : (memory : List Package) (front : List Item) (held held' : Option (List ℕ)) (memory' : List Package) (done' : ℕ) (good : Bool) (item : Item) (reply : Replied) →
    (come : HasCome memory front held held' memory' done' good) → Replies memory' done' item reply → Replies come.session.memory done' item reply
replies_there memory front held held' memory' done' good item reply come r = subst (λ (m : List Package). Replies m done' item reply) come.memory_is r

-- one item more
pub HasCome-push : (memory : List Package) (front : List Item) (held held' held'' : Option (List ℕ)) (memory' memory'' : List Package) (done' : ℕ) (good : Bool) (item : Item) (table : Option Table) (ran : Ran) →
    HasCome memory front held held' memory' done' good → IsSome table → Performs memory' memory'' done' item held' held'' table ran →
    HasCome memory (front ++ item ∷ []) held held'' memory'' ran.done (good && ran.good)
HasCome-push memory front held held' held'' memory' memory'' done' good item table ran come told performs =
    let reply = performs.reply in
    let here = replies_there memory front held held' memory' done' good item reply come performs.replies in
    record {
      session = pushed come.session reply;
      comes = subst (λ (n : ℕ). ComesTo memory 0 (front ++ item ∷ []) (pushed come.session reply) n) (sym performs.shows.done) (comes_push memory 0 front come.session done' item reply come.comes here);
      prints = performs.shows.text ∙ ap (λ h. with_more h reply.text) come.prints ∙ with_more-with_more held come.session.text reply.text;
      memory_is = performs.packages told;
      good_is = λ i. come.good_is i && performs.shows.good i;
    }

pub HasCome-step : (memory : List Package) (items : List Item) (at : ℕ) (held held' held'' : Option (List ℕ)) (memory' memory'' : List Package) (done' : ℕ) (good : Bool) (item : Item) (table : Option Table) (ran : Ran) →
    at < length items → item ≡ get_or items at item →
    HasCome memory (take at items) held held' memory' done' good → IsSome table → Performs memory' memory'' done' item held' held'' table ran →
    HasCome memory (take (at + 1) items) held held'' memory'' ran.done (good && ran.good)
HasCome-step memory items at held held' held'' memory' memory'' done' good item table ran h is come told performs =
    let next : take (at + 1) items ≡ take at items ++ item ∷ [] = take_more items at item h ∙ ap (λ x. take at items ++ x ∷ []) (sym is) in
    subst (λ (front : List Item). HasCome memory front held held'' memory'' ran.done (good && ran.good)) (sym next)
    (HasCome-push memory (take at items) held held' held'' memory' memory'' done' good item table ran come told performs)

-- all items were performed
pub performed : (memory : List Package) (items front : List Item) (held held' : Option (List ℕ)) (memory' : List Package) (done' : ℕ) (good : Bool) (table : Option Table) →
    front ≡ items → HasCome memory front held held' memory' done' good → Stands table memory' → IsPerformed memory items held held' table good
performed memory items front held held' memory' done' good table all come stands = record {
  session = come.session;
  is_session = subst (λ (is : List Item). IsSession memory is come.session) all (is_session memory 0 front come.session done' come.comes);
  prints = come.prints;
  good_is = come.good_is;
  stands = subst (λ (m : List Package). Stands table m) come.memory_is stands;
}

has_memory : (table : Option Table) (memory : List Package) → IsSome table → Stands table memory → HasMemory table memory
has_memory None memory told stands = cc
has_memory (Some table) memory told stands = stands

pub stops_before : (memory : List Package) (items : List Item) (at : ℕ) (held held' held'' : Option (List ℕ)) (memory' : List Package) (done' : ℕ) (good : Bool) (first table table' : Option Table) →
    at ≤ length items → HasCome memory (take at items) held held' memory' done' good → held'' ≡ held' → table' ≡ table → (at ≡ 0 → table ≡ first) → IsSome table → Stands table memory' →
    StopsBefore memory items held held'' first table'
stops_before memory items at held held' held'' memory' done' good first table table' h come unwritten unstored start told stands = record {
  front = at;
  within = h;
  unchanged = λ z. unstored ∙ start z;
  session = come.session;
  is_session = is_session memory 0 (take at items) come.session done' come.comes;
  prints = unwritten ∙ come.prints;
  becomes =
      subst (λ (t : Option Table). HasMemory t come.session.memory) (sym unstored)
      (has_memory table come.session.memory told (subst (λ (m : List Package). Stands table m) come.memory_is stands));
}

pub stops_within : (memory : List Package) (items : List Item) (at : ℕ) (held held' held'' : Option (List ℕ)) (memory' : List Package) (done' : ℕ) (good : Bool) (item : Item) (table : Option Table) →
    at < length items → item ≡ get_or items at item →
    HasCome memory (take at items) held held' memory' done' good →
    IsSome table → Breaks memory' done' item held' held'' table →
    StopsWithin memory items held held'' table
stops_within memory items at held held' held'' memory' done' good item table h is come told broken =
    let next : take (at + 1) items ≡ take at items ++ item ∷ [] = take_more items at item h ∙ ap (λ x. take at items ++ x ∷ []) (sym is) in
    let reply = broken.reply in
    let breaks = broken.breaks in
    let here = replies_there memory (take at items) held held' memory' done' good item reply come broken.replies in
    let all = pushed come.session reply in
    let comes = comes_push memory 0 (take at items) come.session done' item reply come.comes here in
    let said = come.session.text in
    let more = reply.text in
    let n = breaks.text.0 in
    let part : n < length more = breaks.text.1 in
    let size : length (said ++ more) ≡ length said + length more = length-append said more in
    record {
      front = at;
      within = h;
      before = come.session;
      is_before = is_session memory 0 (take at items) come.session done' come.comes;
      session = all;
      is_session = subst (λ (front : List Item). IsSession memory front all) (sym next) (is_session memory 0 (take at items ++ item ∷ []) all reply.done comes);
      written = length said + n;
      whole = omega arith;
      cut = omega (arith, part, size);
      prints =
          breaks.text.2 ∙ ap (λ h. with_more h (take n more)) come.prints ∙ with_more-with_more held said (take n more)
          ∙ ap (with_more held) (sym (take-append-add said more n));
      becomes = has_memory table _ told breaks.stands;
    }
