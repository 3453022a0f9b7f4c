use mathlib.Core.Path.{◌≡◌, refl, sym, ap, ◌∙◌}
use Prim.Native.Nat.{ℕ, suc, ◌+◌, ◌-◌, ◌≤◌, ◌<◌}
use native.Mathlib.Nat.{sub-zero}
use native.Mathlib.Omega.{arith}
use mathlib.Core.List.{List}
use mathlib.Core.Bool.{Bool, true, false, ◌||◌}
use lib.ListN.{length, get_or}
use lib.Dec.{eqb}
use Rattle.refusal.specs.declared.Refusal.{Refusal}
use Rattle.batch.specs.Batch.{place, edges_at, in_order, is_edge, fault_from}
use Rattle.batch_groups.specs.Groups.{any_dead, groups_of}
use Rattle.batch_groups.proofs.Laws.Groups.{groups_count}
use Rattle.batch_groups.proofs.Laws.Order.{fault_end, fault_rest, fault_kind, fault_order, fault_next, length_edges_at}
use Rattle.batch_faults.specs.declared.Tally.{Tally}
use Rattle.batch_faults.specs.declared.Follow.{Follow}
use Rattle.batch_faults.specs.Tally.{follow_at, tally_by}
use Rattle.batch_faults.specs.Tally.Laws.{count_start, dead_start, dead_next, follows, tally_bad, tally_fine}
use Rattle.batch_faults.proofs.tally_records.Goals as goal
use Rattle.batch_faults.proofs.tally_records.Goals.{in-New, in-Same}
use Rattle.batch_faults.proofs.tally_records.Invariants.{Head}
use Rattle.std.specs.Prelude.{Ok, Err}

module _ (s : List ℕ) (n e keys : ℕ) (dead : Bool) (h : Head s n e keys dead) where
  few : keys ≤ e
  few = omega (arith, h.keys_are, groups_count (edges_at e s 0), length_edges_at e s 0)

  module _ (lt : e < n) where
    whole : fault_from (suc (n - (e + 1))) s e ≡ fault_from n s 0
    whole = let q : n - e ≡ suc (n - (e + 1)) = omega arith in (rw q at h.rest)

    stop_kind : is_edge (get_or s (place e) 0) ≡ false → Err (Refusal.Batch (place e)) ≡ tally_by (fault_from n s 0) (edges_at n s 0)
    stop_kind k = tally_bad (fault_from n s 0) (edges_at n s 0) _ (sym whole ∙ fault_kind s e (n - (e + 1)) k)

    module _ (k : is_edge (get_or s (place e) 0) ≡ true) where
      stop_order : Follow.Wrong ≡ follow_at s e → Err (Refusal.Unordered (place e)) ≡ tally_by (fault_from n s 0) (edges_at n s 0)
      stop_order f = tally_bad (fault_from n s 0) (edges_at n s 0) _ (sym whole ∙ fault_order s e (n - (e + 1)) k ((follows s e).wrong (sym f)))

      module _ (more : Bool) (d : more ≡ (dead || eqb (get_or s (place e) 0) 2)) where
        on : in_order s e ≡ true → (count : ℕ) → count ≡ length (groups_of (edges_at (e + 1) s 0)) → Head s n (e + 1) count more
        on o count q = record {
          rest = sym (fault_next s e (n - (e + 1)) k o) ∙ whole;
          keys_are = q;
          dead_is = d ∙ ap (λ (t : Bool). t || eqb (get_or s (place e) 0) 2) h.dead_is ∙ sym (dead_next s e);
        }

        on_new : Follow.New ≡ follow_at s e → Head s n (e + 1) (keys + 1) more
        on_new f = let p = (follows s e).new (sym f) in on p.0 (keys + 1) (ap (λ (t : ℕ). t + 1) h.keys_are ∙ sym p.1)

        on_same : Follow.Same ≡ follow_at s e → Head s n (e + 1) keys more
        on_same f = let p = (follows s e).same_key (sym f) in on p.0 keys (h.keys_are ∙ sym p.1)

  module _ (q : e ≡ n) where
    last : fault_from 0 s n ≡ fault_from n s 0
    last = let z : n - e ≡ 0 = omega arith in (rw (z, q) at h.rest)

    ended : place n ≡ length s → Ok (record { keys = keys; dead = dead }) ≡ tally_by (fault_from n s 0) (edges_at n s 0)
    ended p =
        tally_fine (fault_from n s 0) (edges_at n s 0) keys dead (sym last ∙ fault_end s n p)
        (h.keys_are ∙ ap (λ (t : ℕ). length (groups_of (edges_at t s 0))) q) (h.dead_is ∙ ap (λ (t : ℕ). any_dead (edges_at t s 0)) q)

    ended_rest : (place n ≡ length s → ⊥) → Err (Refusal.Batch (place n)) ≡ tally_by (fault_from n s 0) (edges_at n s 0)
    ended_rest p = tally_bad (fault_from n s 0) (edges_at n s 0) _ (sym last ∙ fault_rest s n p)

pub loop-e-init : goal.loop-e-init
loop-e-init c = let a = c.args in record { rest = rw sub-zero refl; keys_are = count_start a.s.now; dead_is = dead_start a.s.now }

pub returns-then-not-is_edge : goal.returns-then-not-is_edge
returns-then-not-is_edge c =
    let a = c.args in
    let l = c.loop-e in
    c.batch_fault.ensures
    ∙ stop_kind a.s.now a.n l.e l.keys l.dead l.invariant (omega arith) (sym c.is_edge.ensures ∙ c.if-not-is_edge.true)

pub returns-in-Wrong : goal.returns-in-Wrong
returns-in-Wrong c =
    let a = c.args in
    let l = c.loop-e in
    stop_order a.s.now a.n l.e l.keys l.dead l.invariant (omega arith) (sym c.is_edge.ensures ∙ c.if-not-is_edge.false)
    (sym c.in-Wrong.is ∙ c.follow_at.ensures)

pub overflow_add-keys : goal.overflow_add-keys
overflow_add-keys c =
    let a = c.args in
    let l = c.loop-e in
    let f = few a.s.now a.n l.e l.keys l.dead l.invariant in omega arith

pub loop-e-preserved : goal.loop-e-preserved
loop-e-preserved c =
    let a = c.args in
    let l = c.loop-e in
    let k = sym c.is_edge.ensures ∙ c.if-not-is_edge.false in
    let f = c.follow_at.ensures in
    elim c.match-follow_at.branch as (λ _. Head a.s.now a.n (l.e + 1) c.match-follow_at.keys (l.dead || eqb (get_or a.s.now (place l.e) 0) 2)) [
      | in-New w ↦ rw w.keys-is (on_new a.s.now a.n l.e l.keys l.dead l.invariant (omega arith) k _ refl (sym w.in-New.is ∙ f))
      | in-Same w ↦ rw w.keys-is (on_same a.s.now a.n l.e l.keys l.dead l.invariant (omega arith) k _ refl (sym w.in-Same.is ∙ f))
    ]

pub returns-then-end-s : goal.returns-then-end-s
returns-then-end-s c =
    let a = c.args in
    let l = c.loop-e in
    let z : l.e ≡ a.n = omega arith in c.batch_fault-then-end-s.ensures ∙ ended_rest a.s.now a.n l.e l.keys l.dead l.invariant z c.if-end-s.true

pub returns : goal.returns
returns c =
    let a = c.args in
    let l = c.loop-e in
    let z : l.e ≡ a.n = omega arith in ended a.s.now a.n l.e l.keys l.dead l.invariant z (omega arith)
