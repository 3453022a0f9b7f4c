use mathlib.Core.Path.{◌≡◌, refl, sym, ap, ◌∙◌}
use Prim.Native.Nat.{ℕ, ◌+◌, ◌-◌, ◌*◌, ◌/◌, ◌≤◌, ◌<◌}
use native.Mathlib.Nat.{sub-zero, add-zero}
use native.Mathlib.Omega.{arith}
use mathlib.Core.List.{List, [], ◌∷◌, ◌++◌, append-nil}
use lib.ListN.{length, drop, length-append}
use lib.Seq.{sets}
use Rattle.batch.specs.Batch.{marks_in, edges_of}
use Rattle.base.specs.Over.{part, length_part}
use Rattle.base.specs.Put.{Put}
use Rattle.batch.specs.declared.Edge.{Edge}
use Rattle.write_image.specs.Image.{log_bytes, octet, octets, tomb_bytes}
use Rattle.write_image.specs.Image.Laws.{logs_cut, logs_rest, logs_end, length_log_bytes, length_tombs, octets_step, octets_end, octet_rest}
use Rattle.write_sections.specs.Three as T
use Rattle.write_sections.specs.Three.{Three}
use Rattle.write_sections.proofs.by_edge.put_logs_tombs.Given as goal

module _ (es : List Edge) (start : List ℕ) (at : ℕ) where
  abbrev pub all : List ℕ
  all = log_bytes es ++ tomb_bytes es

  -- the bytes of tombstones
  abbrev pub count : ℕ
  count = (length es + 7) / 8

  -- what is left after q octets
  abbrev pub logs : (q : ℕ) → List ℕ
  logs q = log_bytes (drop (8 * q) es)

  abbrev pub tombs : (q : ℕ) → List ℕ
  tombs q = octets (count - q) (marks_in (drop (8 * q) es))

  pub record Head (out : List ℕ) (q p t : ℕ) : Type 0 where
    pub upto : q ≤ length es / 8
    pub two : Three out at [] p (logs q) t (tombs q) start at all

  module _ (out : List ℕ) (q p t : ℕ) (h : Head out q p t) where
    -- the edges of octet q, up to j
    abbrev pub here : (j : ℕ) → List ℕ
    here j = log_bytes (part es (8 * q) j)

    abbrev pub mark : (j : ℕ) → ℕ
    mark j = octet (j - 8 * q) (marks_in (drop (8 * q) es))

    module _ (lt : q < length es / 8) where
      pub full : Three out at [] p (here (8 * q + 8) ++ logs (q + 1)) t ((mark (8 * q + 8) ∷ []) ++ tombs (q + 1)) start at all
      full =
          let next : 8 * q + 8 ≡ 8 * (q + 1) = omega arith in
          let eight : 8 * q + 8 - 8 * q ≡ 8 = omega arith in
          T.are refl
          (logs_cut es (8 * q) (8 * q + 8) (omega arith) ∙ ap (λ (k : ℕ). here (8 * q + 8) ++ log_bytes (drop k es)) next)
          (octets_step es count q (omega arith) ∙ ap (λ (k : ℕ). octet k (marks_in (drop (8 * q) es)) ∷ tombs (q + 1)) (sym eight))
          h.two

      pub length_here : length (here (8 * q + 8)) ≡ 64
      length_here =
          let l = length_log_bytes (part es (8 * q) (8 * q + 8)) in
          let m = length_part es (8 * q) (8 * q + 8) (omega arith) in
          omega arith

      pub room : at + length all ≤ length start → (p + length (here (8 * q + 8)) ≤ length out) × (t < length out) × (p + 64 ≤ length out)
      room g =
          let r = T.rooms [] (here (8 * q + 8)) (mark (8 * q + 8) ∷ []) [] (logs (q + 1)) (tombs (q + 1)) full g in
          let l = length_here in
          (r.1, omega (arith, r.2), omega (arith, r.1))

      pub again : {out' : List ℕ} → out' ≡ sets (sets out p (here (8 * q + 8))) t (mark (8 * q + 8) ∷ []) → Head out' (q + 1) (p + 64) (t + 1)
      again e =
          record {
            upto = omega arith;
            two =
                T.on [] (here (8 * q + 8)) (mark (8 * q + 8) ∷ []) full (sym (add-zero at))
                (ap (λ (k : ℕ). p + k) (sym length_here)) refl e;
          }

    module _ (z : q ≡ length es / 8) (n : ℕ) (en : n ≡ length es) where
      module _ (lt : 8 * q < n) where
        pub last : Three out at [] p (here n ++ []) t ((mark n ∷ []) ++ []) start at all
        last =
            let one : octets (count - q) (marks_in (drop (8 * q) es)) ≡ octet 8 (marks_in (drop (8 * q) es)) ∷ [] =
            octets_step es count q (omega arith)
            ∙ ap (λ (k : List ℕ). octet 8 (marks_in (drop (8 * q) es)) ∷ k) (octets_end (marks_in (drop (8 * (q + 1)) es)) count (q + 1) (omega arith)) in
            T.are refl
            (logs_rest es (8 * q) n en ∙ sym (append-nil (here n)))
            (one ∙ ap (λ (k : ℕ). k ∷ []) (sym (octet_rest es (8 * q) n en (omega arith))))
            h.two

        pub room_last : at + length all ≤ length start → (p + length (here n) ≤ length out) × (t < length out)
        room_last g = let r = T.rooms [] (here n) (mark n ∷ []) [] [] [] last g in (r.1, omega (arith, r.2))

        pub done : {out' : List ℕ} → out' ≡ sets (sets out p (here n)) t (mark n ∷ []) → Put start out' at (t + 1) all
        done e = T.last_of_three (T.on [] (here n) (mark n ∷ []) last (sym (add-zero at)) refl refl e) refl

      pub none_left : n ≤ 8 * q → Put start out at t all
      none_left le =
          T.last_of_three
          (T.are refl (logs_end es (8 * q) (omega arith)) (octets_end (marks_in (drop (8 * q) es)) count q (omega arith)) h.two)
          refl

  module _ (n : ℕ) (en : n ≡ length es) where
    pub fits : at + length all ≡ at + 8 * n + (n + 7) / 8
    fits =
        let l = length-append (log_bytes es) (tomb_bytes es) in
        let a = length_log_bytes es in
        let b = length_tombs es in
        omega arith

    pub begin : Head start 0 at (at + 8 * n)
    begin =
        let a = length_log_bytes es in
        record {
          upto = omega arith;
          two =
              T.are refl refl (ap (λ (k : ℕ). octets k (marks_in es)) (sym (sub-zero count)))
              (T.begin start at [] (log_bytes es) (tomb_bytes es) at (at + 8 * n) (sym (add-zero at)) (omega arith));
        }

abbrev pub invariant-loop-q : goal.invariant-loop-q
invariant-loop-q l = Head (edges_of l.batch) l.initial.out l.at l.out l.q l.p l.t
