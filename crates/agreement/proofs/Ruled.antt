-- What holds at every moment of a list of events, who led in each term among it.
use Rattle.std.proofs.Common.{◌≡◌, ℕ, suc, ◌≤◌, List, [], ◌∷◌, Option, Some, length, take, subst, ◌∙◌}
use Rattle.raft_log.specs.Lists.{item}
use Rattle.raft_log.specs.declared.entry.Entry.{Entry}
use Rattle.raft_log.specs.declared.role.Role.TheVariants.{Leader}
use Rattle.raft_log.specs.Node.{Node}
use Rattle.agreement.specs.World.{Event, happens, run, start, committed_of, Begins}
use Rattle.agreement.specs.Laws.{agreed}
use Rattle.agreement.proofs.Ghost.{Ghost, RoleOk, LeaderOk, NodeOk, Good}
use Rattle.agreement.proofs.Later.{Extends, extends_on, extends_self}
use Rattle.agreement.proofs.Headline.{Goes, goes_stay, run_goes, before, start_good}
use Rattle.agreement.proofs.Holds.{in_agreed}

module _ {B : Type 0} where
  abbrev pub Always : (blank : B) → (List (Node B) → Type 0) → List (Event B) → List (Node B) → Type 0
  Always blank P [] w = P w
  Always blank P (e ∷ es) w = P w × Always blank P es (happens blank w e)

  pub always_of : (blank : B) → (P : List (Node B) → Type 0) (es : List (Event B)) (w : List (Node B)) → ((k : ℕ) → P (run blank (take k es) w)) → Always blank P es w
  always_of blank P [] w h = h 0
  always_of blank P (e ∷ es) w h = (h 0, always_of blank P es (happens blank w e) (λ k. h (suc k)))

  pub record Led (owner : ℕ → Option ℕ) (boots : ℕ → ℕ) (w : List (Node B)) : Type 0 where
    pub leads : (i : ℕ) (s : Node B) → item w i ≡ Some s → s.role ≡ Leader → (owner s.term ≡ Some i) × (boots s.term ≡ s.boot)
    pub commit_in : (i : ℕ) (s : Node B) → item w i ≡ Some s → s.commit ≤ length s.log

  -- and what a node commits begins this list
  pub record Ruled (owner : ℕ → Option ℕ) (boots : ℕ → ℕ) (l : List (Entry B)) (w : List (Node B)) : Type 0 where
    pub led : Led owner boots w
    pub agrees : (i : ℕ) (s : Node B) → item w i ≡ Some s → Begins (take s.commit s.log) l

  pub record Reign (blank : B) (size : ℕ) (es : List (Event B)) : Type 0 where
    pub owner : ℕ → Option ℕ
    pub boots : ℕ → ℕ
    pub always : Always blank (Ruled owner boots (agreed blank size es)) es (start size)

  leader_is : (n : ℕ) (g : Ghost B) (i : ℕ) (s : Node B) → NodeOk n g i s → s.role ≡ Leader → LeaderOk n g i s.boot s.term s.log s.next s.matched
  leader_is n g i s ok h = subst (λ r. RoleOk n g i r s.boot s.term s.vote s.log s.voters s.next s.matched) h ok.role_ok

  led_now : (n : ℕ) (g h : Ghost B) (w : List (Node B)) → Good n g w → Extends g h → Led h.owner h.boots w
  led_now n g h w good ex =
      record {
        leads = λ i s at l.
            let x : LeaderOk n g i s.boot s.term s.log s.next s.matched = leader_is n g i s (good.nodes i s at) l in
            (ex.owners s.term i x.owner, ex.boots_kept s.term i x.owner ∙ x.boot_is);
        commit_in = λ i s at. (good.nodes i s at).commit_in;
      }

  record Reigns (blank : B) (g : Ghost B) (es : List (Event B)) (w : List (Node B)) (n : ℕ) : Type 0 where
    goes : Goes g (run blank es w) n
    always : Always blank (Led goes.after.owner goes.after.boots) es w

  reigns : (blank : B) (n : ℕ) (es : List (Event B)) (g : Ghost B) (w : List (Node B)) → Good n g w → Reigns blank g es w n
  reigns blank n [] g w good = record { goes = goes_stay g w n good; always = led_now n g g w good (extends_self g) }
  reigns blank n (e ∷ es) g w good =
      let one : Goes g (happens blank w e) n = run_goes blank n (e ∷ []) g w good in
      let rest : Reigns blank one.after es (happens blank w e) n = reigns blank n es one.after (happens blank w e) one.good in
      let up : Extends g rest.goes.after = extends_on g one.after rest.goes.after one.more rest.goes.more in
      record {
        goes = record { after = rest.goes.after; good = rest.goes.good; more = up };
        always = (led_now n g rest.goes.after w good up, rest.always);
      }

  both : (blank : B) (owner : ℕ → Option ℕ) (boots : ℕ → ℕ) (l : List (Entry B)) (es : List (Event B)) (w : List (Node B)) → Always blank (Led owner boots) es w
      → ((k i : ℕ) (s : Node B) → item (run blank (take k es) w) i ≡ Some s → Begins (take s.commit s.log) l) → Always blank (Ruled owner boots l) es w
  both blank owner boots l [] w h a = record { led = h; agrees = λ i s at. a 0 i s at }
  both blank owner boots l (e ∷ es) w h a = (record { led = h.0; agrees = λ i s at. a 0 i s at }, both blank owner boots l es (happens blank w e) h.1 (λ k. a (suc k)))

  pub reign : (blank : B) (size : ℕ) (es : List (Event B)) → Reign blank size es
  reign blank size es =
      let r : Reigns blank before es (start size) size = reigns blank size es before (start size) (start_good size) in
      record {
        owner = r.goes.after.owner;
        boots = r.goes.after.boots;
        always = both blank r.goes.after.owner r.goes.after.boots (agreed blank size es) es (start size) r.always
            (λ k i s at. subst (λ o. Begins (committed_of o) (agreed blank size es)) at (in_agreed blank size es k i));
      }
