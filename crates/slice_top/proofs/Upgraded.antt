-- What the upgrade of a certificate writes and says, as an answer.
use Rattle.std.proofs.Common.{◌≡◌, ◌∙◌, inl, inr, ℕ, zero, suc, List, [], ◌∷◌, ◌++◌, map, Option, Some, None, Result, Ok, ap, sym, subst, refl, arith, append_assoc}
use Rattle.std.specs.Prelude.{IfOk}
use Rattle.std.proofs.lemmas.List.{length-append, take-append-le}
use Rattle.slice_num.specs.Pieces.{joined}
use Rattle.slice_io.specs.Files.{Files, told_file}
use Rattle.slice_io.specs.Told.{appended, FrontIsOut}
use Rattle.slice_json.specs.Texts.{line_of}
use Rattle.slice_core.specs.Tree.{Core}
use Rattle.slice_core.proofs.Counting.{joined-append}
use Rattle.slice_cert.specs.declared.line.Line.{Line}
use Rattle.slice_cert.specs.declared.line.Line.TheVariants.{Header, Closing}
use Rattle.slice_cert.specs.CertLines.{line_text}
use Rattle.slice_check.specs.declared.answer.CertAnswer.{CertAnswer}
use Rattle.slice_check.specs.declared.answer.CertAnswer.TheVariants.{Accepted, Rejected}
use Rattle.slice_check.specs.declared.answer.CertFault.{CertFault}
use Rattle.slice_check.specs.declared.answer.CertFault.TheVariants as fault
use Rattle.slice_check.specs.declared.answer.Rejection.TheVariants.{NotClosed}
use Rattle.slice_check.specs.declared.upgrade.UpgradeFault.{UpgradeFault}
use Rattle.slice_check.specs.declared.upgrade.UpgradeFault.TheVariants.{Cert, WriteFault}
use Rattle.slice_check.specs.Faults.{IsUnread}
use Rattle.slice_check.specs.Upgrades.{AreOut, AreRight, AreWhole, AreWritten, IsMissing, IsUpgradeEnd, LinesAreOut, LinesStop as LinesOfStop, UpgradeFails, UpgradeIs, WholeLinesOut}
use Rattle.slice_check.proofs.Farthest.{upgrades_go_on}
use Rattle.slice_check.proofs.LinesOut.{map-append}
use Rattle.slice_check.proofs.OneUpgrade.{not_second}
use Rattle.slice_report.specs.Refusals.{refused_json}
use Rattle.slice_report.specs.declared.refusal.Refusal.{Refusal}
use Rattle.slice_top.specs.Answers.{Answer, answer_of, after_text, refused, stops, goes, EndsUpgrade, IsUpgradeAnswer, upgrade_end}
use Rattle.slice_top.specs.Certificates.{gives_up, checker_refusal, IsUpgradeStop}
use Rattle.slice_top.specs.Reports.{AreLines, IsOut, nothing, first_lines}
use Rattle.slice_top.specs.Settled.{Wrote, WroteFront, Ends, UpgradeLeaves, UpgradeStops}
use Rattle.slice_top.specs.Statuses.{refused_status}
use Rattle.slice_top.specs.declared.status.Status.{Status}
use Rattle.slice_top.specs.declared.stop.Stop.{Stop}
use Rattle.slice_top.specs.declared.stop.Stop.TheVariants as stop
use Rattle.slice_top.proofs.CheckedFiles.{checker_refused, not_refused, says_nothing, says_of}
use Rattle.slice_top.proofs.Decided.{joined_lines}
use Rattle.slice_top.proofs.Endings.{appended_nothing}

-- ---- texts

-- texts are those of some lines
record AreOfLines (texts : List (List ℕ)) : Type 0 where
  lines : List Line
  are : texts ≡ map line_text lines

written_lines : (core : Core) (file : List ℕ) (i : ℕ) (texts : List (List ℕ)) → AreWritten core file i texts → AreOfLines texts
written_lines core file zero texts e = record { lines = []; are = e }
written_lines core file (suc i) texts w = record { lines = Header 2 core.name core.agents ∷ w.0; are = w.2 }

whole_lines : (core : Core) (file : List ℕ) (total : ℕ) (texts : List (List ℕ)) → AreWhole core file total texts → AreOfLines texts
whole_lines core file total texts w =
    let front : List Line = Header 2 core.name core.agents ∷ w.1 in
    record { lines = front ++ Closing total ∷ []; are = w.4 ∙ sym (map-append front (Closing total ∷ [])) }

-- put behind nothing
put_first : (texts : List (List ℕ)) (l : AreOfLines texts) → AreOut (Some []) (Some (joined (map line_text l.lines))) texts
put_first texts l = ap (λ (ts : List (List ℕ)). Some (joined ts)) (sym l.are)

-- lines were put behind what was out, and this holds where they are put behind nothing
pub record Put (old new : Option (List ℕ)) (P : Option (List ℕ) → Option (List ℕ) → Type 0) : Type 0 where
  pub lines : List Line
  pub out : new ≡ appended old (joined (map line_text lines))
  pub is : P (Some []) (Some (joined (map line_text lines)))

put_texts : (old new : Option (List ℕ)) (P : Option (List ℕ) → Option (List ℕ) → Type 0) (texts : List (List ℕ)) (l : AreOfLines texts) → AreOut old new texts → (AreOut (Some []) (Some (joined (map line_text l.lines))) texts → P (Some []) (Some (joined (map line_text l.lines)))) → Put old new P
put_texts old new P texts l out f = record { lines = l.lines; out = out ∙ ap (λ (ts : List (List ℕ)). appended old (joined ts)) l.are; is = f (put_first texts l) }

module _ (core : Core) (file : List ℕ) where
  pub put_answer : (old new : Option (List ℕ)) (x : CertAnswer) → UpgradeIs core file old new x → Put old new (λ a b. UpgradeIs core file a b x)
  put_answer old new (Accepted total) (none, is, texts, whole, out) =
      put_texts old new (λ a b. UpgradeIs core file a b (Accepted total)) texts (whole_lines core file total texts whole) out (λ first. (none, is, texts, whole, first))
  put_answer old new (Rejected r) (is, (i, texts, written, last, out)) =
      put_texts old new (λ a b. UpgradeIs core file a b (Rejected r)) texts (written_lines core file i texts written) out (λ first. (is, (i, texts, written, last, first)))

  put_lines : (old new : Option (List ℕ)) (Q : Type 0) → Q → (R : Type 0) → R → LinesAreOut core file old new → Put old new (λ a b. Q × R × LinesAreOut core file a b)
  put_lines old new Q q R r (i, texts, written, last, out) =
      put_texts old new (λ a b. Q × R × LinesAreOut core file a b) texts (written_lines core file i texts written) out (λ first. (q, r, (i, texts, written, last, first)))

  put_fault : (old new : Option (List ℕ)) (f : CertFault) → (IsUnread f → ⊥) → UpgradeFails core file old new (Cert f) → Put old new (λ a b. UpgradeFails core file a b (Cert f))
  put_fault old new fault.ReadFault u h = absurd (u tt)
  put_fault old new fault.TooLong u h = put_lines old new _ h.0 _ h.1 h.2
  put_fault old new fault.GoalLimit u h = put_lines old new _ h.0 _ h.1 h.2
  put_fault old new (fault.FormOverflow goal) u h = put_lines old new _ h.0 _ h.1 h.2
  put_fault old new (fault.Overflow goal unknown) u h = put_lines old new _ h.0 _ h.1 h.2
  put_fault old new fault.Memory u h = absurd (u tt)

  -- what is out where nothing is answered
  so_far : (old new : Option (List ℕ)) (f : CertFault) → UpgradeFails core file old new (Cert f) → (i : ℕ) × (texts : List (List ℕ)) × AreWritten core file i texts × AreOut old new texts
  so_far old new fault.ReadFault h = h
  so_far old new fault.TooLong h = let l = h.2 in (l.0, l.1, l.2, l.4)
  so_far old new fault.GoalLimit h = let l = h.2 in (l.0, l.1, l.2, l.4)
  so_far old new (fault.FormOverflow goal) h = let l = h.2 in (l.0, l.1, l.2, l.4)
  so_far old new (fault.Overflow goal unknown) h = let l = h.2 in (l.0, l.1, l.2, l.4)
  so_far old new fault.Memory h = h

-- the front of some bytes is one of more
front_more : (old new : Option (List ℕ)) (xs ys : List ℕ) → FrontIsOut old new xs → FrontIsOut old new (xs ++ ys)
front_more old new xs ys f =
    let within = f.within in
    let long = length-append xs ys in
    record {
      count = f.count;
      within = omega (arith, within, long);
      out = f.out ∙ ap (appended old) (sym (take-append-le f.count xs ys f.within));
    }

module _ (told : Option Files) (name : List ℕ) (core : Core) where
  -- ---- lines that are out, and what follows them

  pub record Follows (old new : Option (List ℕ)) (b : Answer) : Type 0 where
    pub lines : List Line
    pub out : new ≡ appended old (joined (map line_text lines))
    pub ends : EndsUpgrade told name core (joined (map line_text lines)) b

  whole_answer : (old new : Option (List ℕ)) (b : Answer) (x : Follows old new b) → IsUpgradeAnswer told name core (after_text (joined (map line_text x.lines)) b)
  whole_answer old new b x = (x.lines, b, x.ends, refl)

  -- the rest is still to be written
  pub follows_ends : (old new : Option (List ℕ)) (bytes : List ℕ) (s : Status) → Follows old new (answer_of bytes s) → Ends (IsUpgradeAnswer told name core) old new bytes s
  follows_ends old new bytes s x = record { out = joined (map line_text x.lines); told = x.out; is = (joined_lines x.lines, whole_answer old new (answer_of bytes s) x) }

  -- or it isn't
  pub follows_starved : (old new : Option (List ℕ)) (b : Answer) → Follows old new b → Wrote old new (IsOut (IsUpgradeAnswer told name core))
  follows_starved old new b x = record {
    out = joined (map line_text x.lines);
    told = x.out;
    is = first_lines (after_text (joined (map line_text x.lines)) b) (whole_answer old new b x) (joined_lines x.lines) b.text refl;
  }

  -- ---- a shelf that doesn't tell the file

  -- lines with any end
  untold : (old new : Option (List ℕ)) (x : CertAnswer) → told_file told name ≡ None → WholeLinesOut old new → Follows old new (upgrade_end x)
  untold old new x e w = record { lines = w.0; out = w.1; ends = goes x (says_nothing told name _ e) refl }

  untold_refused : (old new : Option (List ℕ)) (f : CertFault) (r : Refusal) → checker_refusal name f ≡ Some r → told_file told name ≡ None → WholeLinesOut old new → Follows old new (refused r)
  untold_refused old new f r is e w = record { lines = w.0; out = w.1; ends = stops r (gives_up f is (says_nothing told name _ e)) refl }

  -- ---- a shelf that tells it

  -- the answer that ends so
  told_answer : (file out : List ℕ) → told_file told name ≡ Some (Some file) → IsUpgradeEnd core file out → (a : Answer) × (rest : List ℕ) × IsUpgradeAnswer told name core a × (a.text ≡ out ++ rest)
  told_answer file out e (inl (x, h)) =
      let p = put_answer core file (Some []) (Some out) x h in
      let lines = joined (map line_text p.lines) in
      let same : out ≡ lines = let f : Some out ≡ Some lines = p.out in cc in (
        after_text lines (upgrade_end x),
        (upgrade_end x).text,
        (p.lines, upgrade_end x, goes x (says_of told name file _ e p.is) refl, refl),
        ap (λ (xs : List ℕ). xs ++ (upgrade_end x).text) (sym same),
      )
  told_answer file out e (inr (f, u, h)) =
      let p = put_fault core file (Some []) (Some out) f u h in
      let lines = joined (map line_text p.lines) in
      let same : out ≡ lines = let f : Some out ≡ Some lines = p.out in cc in
      let r = checker_refused name f u in (
        after_text lines (refused r.0),
        (refused r.0).text,
        (p.lines, refused r.0, stops r.0 (gives_up f r.1 (says_of told name file _ e p.is)) refl, refl),
        ap (λ (xs : List ℕ). xs ++ (refused r.0).text) (sym same),
      )

  -- texts that are written go on to an answer
  pub written_on : (file : List ℕ) (i : ℕ) (texts : List (List ℕ)) → told_file told name ≡ Some (Some file) → AreWritten core file i texts → (a : Answer) × (rest : List ℕ) × IsUpgradeAnswer told name core a × (a.text ≡ joined texts ++ rest)
  written_on file i texts e w =
      let x = upgrades_go_on core file i texts w in
      let a = told_answer file (joined (texts ++ x.0)) e x.1 in
      (a.0, joined x.0 ++ a.1, a.2, a.3 ∙ ap (λ (xs : List ℕ). xs ++ a.1) (joined-append texts x.0) ∙ append_assoc (joined texts) (joined x.0) a.1)

  told_starved : (old new : Option (List ℕ)) (file : List ℕ) (i : ℕ) (texts : List (List ℕ)) → told_file told name ≡ Some (Some file) → AreWritten core file i texts → AreOut old new texts → Wrote old new (IsOut (IsUpgradeAnswer told name core))
  told_starved old new file i texts e w out =
      let x = written_on file i texts e w in
      let l = written_lines core file i texts w in
      let lines = subst (λ (ts : List (List ℕ)). AreLines (joined ts)) (sym l.are) (joined_lines l.lines) in
      record { out = joined texts; told = out; is = first_lines x.0 x.2 lines x.1 x.3 }

  told_front : (old new : Option (List ℕ)) (file : List ℕ) (texts : List (List ℕ)) → told_file told name ≡ Some (Some file) → AreRight core file texts → FrontIsOut old new (joined texts) → WroteFront old new (IsUpgradeAnswer told name core)
  told_front old new file texts e (inl (i, w)) f =
      let x = written_on file i texts e w in
      record { answer = x.0; is = x.2; front = subst (FrontIsOut old new) (sym x.3) (front_more old new (joined texts) x.1 f) }
  told_front old new file texts e (inr (total, w, h)) f =
      let whole : UpgradeIs core file (Some []) (Some (joined texts)) (Accepted total) = (not_second core file w.3.stands.header, h, texts, w, refl) in
      let x = told_answer file (joined texts) e (inl (Accepted total, whole)) in
      record { answer = x.0; is = x.2; front = subst (FrontIsOut old new) (sym x.3) (front_more old new (joined texts) x.1 f) }

  -- ---- the whole call

  pub missing_answer : (x : CertAnswer) (r : Result CertAnswer UpgradeFault) → r ≡ Ok x → IfOk r (λ a. ⊥) → ⊥
  missing_answer x r e h = subst (λ (o : Result CertAnswer UpgradeFault). IfOk o (λ a. ⊥)) e h

  -- what is answered
  pub answer_follows : (old new : Option (List ℕ)) (x : CertAnswer) (o : Option (Option (List ℕ))) → told_file told name ≡ o → WholeLinesOut old new → (o ≡ Some None → ⊥)
      → ((file : List ℕ) → told_file told name ≡ Some (Some file) → UpgradeIs core file old new x) → Follows old new (upgrade_end x)
  answer_follows old new x None e w there says = untold old new x e w
  answer_follows old new x (Some None) e w there says = absurd (there refl)
  answer_follows old new x (Some (Some file)) e w there says =
      let p = put_answer core file old new x (says file e) in
      record { lines = p.lines; out = p.out; ends = goes x (says_of told name file _ e p.is) refl }

  -- a fault
  pub record Faulted (old new : Option (List ℕ)) (e : UpgradeFault) : Type 0 where
    pub lines : LinesOfStop old new e
    pub missing : told_file told name ≡ Some None → IsMissing old new e
    pub says : (file : List ℕ) → told_file told name ≡ Some (Some file) → UpgradeFails core file old new e

  refused_follows : (old new : Option (List ℕ)) (f : CertFault) (r : Refusal) (o : Option (Option (List ℕ))) → told_file told name ≡ o → checker_refusal name f ≡ Some r → Faulted old new (Cert f) → Follows old new (refused r)
  refused_follows old new f r None e is x = untold_refused old new f r is e x.lines
  refused_follows old new f r (Some None) e is x = absurd (not_refused name f r (x.missing e).0 is)
  refused_follows old new f r (Some (Some file)) e is x =
      let p = put_fault core file old new f (λ u. not_refused name f r u is) (x.says file e) in
      record { lines = p.lines; out = p.out; ends = stops r (gives_up f is (says_of told name file _ e p.is)) refl }

  starved_by : (old new : Option (List ℕ)) (f : CertFault) (o : Option (Option (List ℕ))) → told_file told name ≡ o → Faulted old new (Cert f) → Wrote old new (IsOut (IsUpgradeAnswer told name core))
  starved_by old new f None e x = follows_starved old new (upgrade_end (Rejected NotClosed)) (untold old new (Rejected NotClosed) e x.lines)
  starved_by old new f (Some None) e x = record { out = []; told = (x.missing e).1 ∙ appended_nothing old; is = nothing refl }
  starved_by old new f (Some (Some file)) e x = let s = so_far core file old new f (x.says file e) in told_starved old new file s.0 s.1 e s.2 s.3

  -- what is out where the file can't be read on
  unread_by : (old new : Option (List ℕ)) (f : CertFault) (o : Option (Option (List ℕ))) → told_file told name ≡ o → Faulted old new (Cert f) → Wrote old new (UpgradeLeaves told name core)
  unread_by old new f None e x =
      let b = upgrade_end (Rejected NotClosed) in
      let lines = joined (map line_text x.lines.0) in
      record {
        out = lines;
        told = x.lines.1;
        is = inr (
          first_lines (after_text lines b) (x.lines.0, b, goes (Rejected NotClosed) (says_nothing told name _ e) refl, refl) (joined_lines x.lines.0) b.text refl,
          record { lines = x.lines.0; are = refl; says = says_nothing told name _ e },
        );
      }
  unread_by old new f (Some None) e x = record { out = []; told = (x.missing e).1 ∙ appended_nothing old; is = inl refl }
  unread_by old new f (Some (Some file)) e x =
      let s = so_far core file old new f (x.says file e) in
      let a = written_on file s.0 s.1 e s.2 in
      let l = written_lines core file s.0 s.1 s.2 in
      let lines = subst (λ (ts : List (List ℕ)). AreLines (joined ts)) (sym l.are) (joined_lines l.lines) in
      record {
        out = joined s.1;
        told = s.3;
        is = inr (first_lines a.0 a.2 lines a.1 a.3, record { lines = l.lines; are = ap joined l.are; says = says_of told name file _ e (s.0, s.1, s.2, refl) });
      }

  front_by : (old new : Option (List ℕ)) (o : Option (Option (List ℕ))) → told_file told name ≡ o → Faulted old new WriteFault → WroteFront old new (IsUpgradeAnswer told name core)
  front_by old new None e x =
      let b = upgrade_end (Rejected NotClosed) in
      let lines = joined (map line_text x.lines.0) in
      record { answer = after_text lines b; is = (x.lines.0, b, goes (Rejected NotClosed) (says_nothing told name _ e) refl, refl); front = front_more old new lines b.text x.lines.1 }
  front_by old new (Some None) e x = absurd (x.missing e)
  front_by old new (Some (Some file)) e x = let h = x.says file e in told_front old new file h.0 e h.1 h.2

  pub upgrade_stops : (shelf sink : Type 0) (old new : Option (List ℕ)) (e : UpgradeFault) (s : Stop) → Faulted old new e → (e ≡ Cert fault.ReadFault → shelf) → (e ≡ WriteFault → sink) → IsUpgradeStop name e s
      → UpgradeStops told name core shelf sink old new s
  upgrade_stops shelf sink old new (Cert f) (stop.Refused r) x read rose h =
      (follows_ends old new (line_of (refused_json r)) (refused_status r) (refused_follows old new f r (told_file told name) refl h.0 x), h.1)
  upgrade_stops shelf sink old new (Cert f) (stop.Unread file) x read rose h =
      let w = unread_by old new f (told_file told name) refl x in
      (record { out = w.out; told = w.told; is = (h.1.0, w.is) }, (read (ap Cert h.0), h.1.1))
  upgrade_stops shelf sink old new (Cert f) stop.Memory x read rose h = starved_by old new f (told_file told name) refl x
  upgrade_stops shelf sink old new (Cert f) stop.Unwritten x read rose h = absurd h
  upgrade_stops shelf sink old new WriteFault s x read rose h =
      subst (UpgradeStops told name core shelf sink old new) (sym h) (front_by old new (told_file told name) refl x, rose refl)
