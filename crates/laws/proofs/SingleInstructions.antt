-- ONE OUTCOME of each instruction by name: two results that its contract allows are equal.
-- Assumes nothing.
use mathlib.Core.Path.{sym, ◌∙◌}
use Rattle.vector.proofs.vaddubm.Kinds as vector-vaddubm-kinds
use Rattle.vector.proofs.vaddubm.Reads as vector-vaddubm
use Rattle.vector.proofs.vadduhm.Kinds as vector-vadduhm-kinds
use Rattle.vector.proofs.vadduhm.Reads as vector-vadduhm
use Rattle.vector.proofs.vadduwm.Kinds as vector-vadduwm-kinds
use Rattle.vector.proofs.vadduwm.Reads as vector-vadduwm
use Rattle.vector.proofs.vaddcuw.Kinds as vector-vaddcuw-kinds
use Rattle.vector.proofs.vaddcuw.Reads as vector-vaddcuw
use Rattle.vector.proofs.vaddubs.Kinds as vector-vaddubs-kinds
use Rattle.vector.proofs.vaddubs.Reads as vector-vaddubs
use Rattle.vector.proofs.vadduhs.Kinds as vector-vadduhs-kinds
use Rattle.vector.proofs.vadduhs.Reads as vector-vadduhs
use Rattle.vector.proofs.vadduws.Kinds as vector-vadduws-kinds
use Rattle.vector.proofs.vadduws.Reads as vector-vadduws
use Rattle.vector.proofs.vaddsbs.Kinds as vector-vaddsbs-kinds
use Rattle.vector.proofs.vaddsbs.Reads as vector-vaddsbs
use Rattle.vector.proofs.vaddshs.Kinds as vector-vaddshs-kinds
use Rattle.vector.proofs.vaddshs.Reads as vector-vaddshs
use Rattle.vector.proofs.vaddsws.Kinds as vector-vaddsws-kinds
use Rattle.vector.proofs.vaddsws.Reads as vector-vaddsws
use Rattle.vector.proofs.vsububm.Kinds as vector-vsububm-kinds
use Rattle.vector.proofs.vsububm.Reads as vector-vsububm
use Rattle.vector.proofs.vsubuhm.Kinds as vector-vsubuhm-kinds
use Rattle.vector.proofs.vsubuhm.Reads as vector-vsubuhm
use Rattle.vector.proofs.vsubuwm.Kinds as vector-vsubuwm-kinds
use Rattle.vector.proofs.vsubuwm.Reads as vector-vsubuwm
use Rattle.vector.proofs.vsubcuw.Kinds as vector-vsubcuw-kinds
use Rattle.vector.proofs.vsubcuw.Reads as vector-vsubcuw
use Rattle.vector.proofs.vsububs.Kinds as vector-vsububs-kinds
use Rattle.vector.proofs.vsububs.Reads as vector-vsububs
use Rattle.vector.proofs.vsubuhs.Kinds as vector-vsubuhs-kinds
use Rattle.vector.proofs.vsubuhs.Reads as vector-vsubuhs
use Rattle.vector.proofs.vsubuws.Kinds as vector-vsubuws-kinds
use Rattle.vector.proofs.vsubuws.Reads as vector-vsubuws
use Rattle.vector.proofs.vsubsbs.Kinds as vector-vsubsbs-kinds
use Rattle.vector.proofs.vsubsbs.Reads as vector-vsubsbs
use Rattle.vector.proofs.vsubshs.Kinds as vector-vsubshs-kinds
use Rattle.vector.proofs.vsubshs.Reads as vector-vsubshs
use Rattle.vector.proofs.vsubsws.Kinds as vector-vsubsws-kinds
use Rattle.vector.proofs.vsubsws.Reads as vector-vsubsws
use Rattle.vector.proofs.vmaxub.Kinds as vector-vmaxub-kinds
use Rattle.vector.proofs.vmaxub.Reads as vector-vmaxub
use Rattle.vector.proofs.vmaxuh.Kinds as vector-vmaxuh-kinds
use Rattle.vector.proofs.vmaxuh.Reads as vector-vmaxuh
use Rattle.vector.proofs.vmaxuw.Kinds as vector-vmaxuw-kinds
use Rattle.vector.proofs.vmaxuw.Reads as vector-vmaxuw
use Rattle.vector.proofs.vmaxsb.Kinds as vector-vmaxsb-kinds
use Rattle.vector.proofs.vmaxsb.Reads as vector-vmaxsb
use Rattle.vector.proofs.vmaxsh.Kinds as vector-vmaxsh-kinds
use Rattle.vector.proofs.vmaxsh.Reads as vector-vmaxsh
use Rattle.vector.proofs.vmaxsw.Kinds as vector-vmaxsw-kinds
use Rattle.vector.proofs.vmaxsw.Reads as vector-vmaxsw
use Rattle.vector.proofs.vminub.Kinds as vector-vminub-kinds
use Rattle.vector.proofs.vminub.Reads as vector-vminub
use Rattle.vector.proofs.vminuh.Kinds as vector-vminuh-kinds
use Rattle.vector.proofs.vminuh.Reads as vector-vminuh
use Rattle.vector.proofs.vminuw.Kinds as vector-vminuw-kinds
use Rattle.vector.proofs.vminuw.Reads as vector-vminuw
use Rattle.vector.proofs.vminsb.Kinds as vector-vminsb-kinds
use Rattle.vector.proofs.vminsb.Reads as vector-vminsb
use Rattle.vector.proofs.vminsh.Kinds as vector-vminsh-kinds
use Rattle.vector.proofs.vminsh.Reads as vector-vminsh
use Rattle.vector.proofs.vminsw.Kinds as vector-vminsw-kinds
use Rattle.vector.proofs.vminsw.Reads as vector-vminsw
use Rattle.vector.proofs.vavgub.Kinds as vector-vavgub-kinds
use Rattle.vector.proofs.vavgub.Reads as vector-vavgub
use Rattle.vector.proofs.vavguh.Kinds as vector-vavguh-kinds
use Rattle.vector.proofs.vavguh.Reads as vector-vavguh
use Rattle.vector.proofs.vavguw.Kinds as vector-vavguw-kinds
use Rattle.vector.proofs.vavguw.Reads as vector-vavguw
use Rattle.vector.proofs.vavgsb.Kinds as vector-vavgsb-kinds
use Rattle.vector.proofs.vavgsb.Reads as vector-vavgsb
use Rattle.vector.proofs.vavgsh.Kinds as vector-vavgsh-kinds
use Rattle.vector.proofs.vavgsh.Reads as vector-vavgsh
use Rattle.vector.proofs.vavgsw.Kinds as vector-vavgsw-kinds
use Rattle.vector.proofs.vavgsw.Reads as vector-vavgsw
use Rattle.vector.proofs.vrlb.Kinds as vector-vrlb-kinds
use Rattle.vector.proofs.vrlb.Reads as vector-vrlb
use Rattle.vector.proofs.vrlh.Kinds as vector-vrlh-kinds
use Rattle.vector.proofs.vrlh.Reads as vector-vrlh
use Rattle.vector.proofs.vrlw.Kinds as vector-vrlw-kinds
use Rattle.vector.proofs.vrlw.Reads as vector-vrlw
use Rattle.vector.proofs.vslb.Kinds as vector-vslb-kinds
use Rattle.vector.proofs.vslb.Reads as vector-vslb
use Rattle.vector.proofs.vslh.Kinds as vector-vslh-kinds
use Rattle.vector.proofs.vslh.Reads as vector-vslh
use Rattle.vector.proofs.vslw.Kinds as vector-vslw-kinds
use Rattle.vector.proofs.vslw.Reads as vector-vslw
use Rattle.vector.proofs.vsrb.Kinds as vector-vsrb-kinds
use Rattle.vector.proofs.vsrb.Reads as vector-vsrb
use Rattle.vector.proofs.vsrh.Kinds as vector-vsrh-kinds
use Rattle.vector.proofs.vsrh.Reads as vector-vsrh
use Rattle.vector.proofs.vsrw.Kinds as vector-vsrw-kinds
use Rattle.vector.proofs.vsrw.Reads as vector-vsrw
use Rattle.vector.proofs.vsrab.Kinds as vector-vsrab-kinds
use Rattle.vector.proofs.vsrab.Reads as vector-vsrab
use Rattle.vector.proofs.vsrah.Kinds as vector-vsrah-kinds
use Rattle.vector.proofs.vsrah.Reads as vector-vsrah
use Rattle.vector.proofs.vsraw.Kinds as vector-vsraw-kinds
use Rattle.vector.proofs.vsraw.Reads as vector-vsraw
use Rattle.vector.proofs.vand.Kinds as vector-vand-kinds
use Rattle.vector.proofs.vand.Reads as vector-vand
use Rattle.vector.proofs.vandc.Kinds as vector-vandc-kinds
use Rattle.vector.proofs.vandc.Reads as vector-vandc
use Rattle.vector.proofs.vor.Kinds as vector-vor-kinds
use Rattle.vector.proofs.vor.Reads as vector-vor
use Rattle.vector.proofs.vxor.Kinds as vector-vxor-kinds
use Rattle.vector.proofs.vxor.Reads as vector-vxor
use Rattle.vector.proofs.vnor.Kinds as vector-vnor-kinds
use Rattle.vector.proofs.vnor.Reads as vector-vnor
use Rattle.vector.proofs.vmuloub.Kinds as vector-vmuloub-kinds
use Rattle.vector.proofs.vmuloub.Reads as vector-vmuloub
use Rattle.vector.proofs.vmulouh.Kinds as vector-vmulouh-kinds
use Rattle.vector.proofs.vmulouh.Reads as vector-vmulouh
use Rattle.vector.proofs.vmulosb.Kinds as vector-vmulosb-kinds
use Rattle.vector.proofs.vmulosb.Reads as vector-vmulosb
use Rattle.vector.proofs.vmulosh.Kinds as vector-vmulosh-kinds
use Rattle.vector.proofs.vmulosh.Reads as vector-vmulosh
use Rattle.vector.proofs.vmuleub.Kinds as vector-vmuleub-kinds
use Rattle.vector.proofs.vmuleub.Reads as vector-vmuleub
use Rattle.vector.proofs.vmuleuh.Kinds as vector-vmuleuh-kinds
use Rattle.vector.proofs.vmuleuh.Reads as vector-vmuleuh
use Rattle.vector.proofs.vmulesb.Kinds as vector-vmulesb-kinds
use Rattle.vector.proofs.vmulesb.Reads as vector-vmulesb
use Rattle.vector.proofs.vmulesh.Kinds as vector-vmulesh-kinds
use Rattle.vector.proofs.vmulesh.Reads as vector-vmulesh
use Rattle.vector.proofs.vsum4ubs.Kinds as vector-vsum4ubs-kinds
use Rattle.vector.proofs.vsum4ubs.Reads as vector-vsum4ubs
use Rattle.vector.proofs.vsum4sbs.Kinds as vector-vsum4sbs-kinds
use Rattle.vector.proofs.vsum4sbs.Reads as vector-vsum4sbs
use Rattle.vector.proofs.vsum4shs.Kinds as vector-vsum4shs-kinds
use Rattle.vector.proofs.vsum4shs.Reads as vector-vsum4shs
use Rattle.vector.proofs.vspltisb.Kinds as vector-vspltisb-kinds
use Rattle.vector.proofs.vspltisb.Reads as vector-vspltisb
use Rattle.vector.proofs.vspltish.Kinds as vector-vspltish-kinds
use Rattle.vector.proofs.vspltish.Reads as vector-vspltish
use Rattle.vector.proofs.vspltisw.Kinds as vector-vspltisw-kinds
use Rattle.vector.proofs.vspltisw.Reads as vector-vspltisw
use Rattle.vector.proofs.vcmpequb.Kinds as vector-vcmpequb-kinds
use Rattle.vector.proofs.vcmpequb.Reads as vector-vcmpequb
use Rattle.vector.proofs.vcmpequh.Kinds as vector-vcmpequh-kinds
use Rattle.vector.proofs.vcmpequh.Reads as vector-vcmpequh
use Rattle.vector.proofs.vcmpequw.Kinds as vector-vcmpequw-kinds
use Rattle.vector.proofs.vcmpequw.Reads as vector-vcmpequw
use Rattle.vector.proofs.vcmpgtub.Kinds as vector-vcmpgtub-kinds
use Rattle.vector.proofs.vcmpgtub.Reads as vector-vcmpgtub
use Rattle.vector.proofs.vcmpgtuh.Kinds as vector-vcmpgtuh-kinds
use Rattle.vector.proofs.vcmpgtuh.Reads as vector-vcmpgtuh
use Rattle.vector.proofs.vcmpgtuw.Kinds as vector-vcmpgtuw-kinds
use Rattle.vector.proofs.vcmpgtuw.Reads as vector-vcmpgtuw
use Rattle.vector.proofs.vcmpgtsb.Kinds as vector-vcmpgtsb-kinds
use Rattle.vector.proofs.vcmpgtsb.Reads as vector-vcmpgtsb
use Rattle.vector.proofs.vcmpgtsh.Kinds as vector-vcmpgtsh-kinds
use Rattle.vector.proofs.vcmpgtsh.Reads as vector-vcmpgtsh
use Rattle.vector.proofs.vcmpgtsw.Kinds as vector-vcmpgtsw-kinds
use Rattle.vector.proofs.vcmpgtsw.Reads as vector-vcmpgtsw
use Rattle.vector.proofs.vmhaddshs.Kinds as vector-vmhaddshs-kinds
use Rattle.vector.proofs.vmhaddshs.Reads as vector-vmhaddshs
use Rattle.vector.proofs.vmhraddshs.Kinds as vector-vmhraddshs-kinds
use Rattle.vector.proofs.vmhraddshs.Reads as vector-vmhraddshs
use Rattle.vector.proofs.vmladduhm.Kinds as vector-vmladduhm-kinds
use Rattle.vector.proofs.vmladduhm.Reads as vector-vmladduhm
use Rattle.vector.proofs.vmsumubm.Kinds as vector-vmsumubm-kinds
use Rattle.vector.proofs.vmsumubm.Reads as vector-vmsumubm
use Rattle.vector.proofs.vmsummbm.Kinds as vector-vmsummbm-kinds
use Rattle.vector.proofs.vmsummbm.Reads as vector-vmsummbm
use Rattle.vector.proofs.vmsumuhm.Kinds as vector-vmsumuhm-kinds
use Rattle.vector.proofs.vmsumuhm.Reads as vector-vmsumuhm
use Rattle.vector.proofs.vmsumuhs.Kinds as vector-vmsumuhs-kinds
use Rattle.vector.proofs.vmsumuhs.Reads as vector-vmsumuhs
use Rattle.vector.proofs.vmsumshm.Kinds as vector-vmsumshm-kinds
use Rattle.vector.proofs.vmsumshm.Reads as vector-vmsumshm
use Rattle.vector.proofs.vmsumshs.Kinds as vector-vmsumshs-kinds
use Rattle.vector.proofs.vmsumshs.Reads as vector-vmsumshs
use Rattle.vector.proofs.vsel.Kinds as vector-vsel-kinds
use Rattle.vector.proofs.vsel.Reads as vector-vsel
use Rattle.slides.proofs.vsldoi.Kinds as slides-vsldoi-kinds
use Rattle.slides.proofs.vsldoi.Reads as slides-vsldoi
use Rattle.slides.proofs.vslo.Kinds as slides-vslo-kinds
use Rattle.slides.proofs.vslo.Reads as slides-vslo
use Rattle.slides.proofs.vsro.Kinds as slides-vsro-kinds
use Rattle.slides.proofs.vsro.Reads as slides-vsro
use Rattle.moves.proofs.vmrghb.Kinds as moves-vmrghb-kinds
use Rattle.moves.proofs.vmrghb.Reads as moves-vmrghb
use Rattle.moves.proofs.vmrghh.Kinds as moves-vmrghh-kinds
use Rattle.moves.proofs.vmrghh.Reads as moves-vmrghh
use Rattle.moves.proofs.vmrghw.Kinds as moves-vmrghw-kinds
use Rattle.moves.proofs.vmrghw.Reads as moves-vmrghw
use Rattle.moves.proofs.vmrglb.Kinds as moves-vmrglb-kinds
use Rattle.moves.proofs.vmrglb.Reads as moves-vmrglb
use Rattle.moves.proofs.vmrglh.Kinds as moves-vmrglh-kinds
use Rattle.moves.proofs.vmrglh.Reads as moves-vmrglh
use Rattle.moves.proofs.vmrglw.Kinds as moves-vmrglw-kinds
use Rattle.moves.proofs.vmrglw.Reads as moves-vmrglw
use Rattle.moves.proofs.vspltb.Kinds as moves-vspltb-kinds
use Rattle.moves.proofs.vspltb.Reads as moves-vspltb
use Rattle.moves.proofs.vsplth.Kinds as moves-vsplth-kinds
use Rattle.moves.proofs.vsplth.Reads as moves-vsplth
use Rattle.moves.proofs.vspltw.Kinds as moves-vspltw-kinds
use Rattle.moves.proofs.vspltw.Reads as moves-vspltw
use Rattle.moves.proofs.lvsl.Kinds as moves-lvsl-kinds
use Rattle.moves.proofs.lvsl.Reads as moves-lvsl
use Rattle.moves.proofs.lvsr.Kinds as moves-lvsr-kinds
use Rattle.moves.proofs.lvsr.Reads as moves-lvsr
use Rattle.moves.proofs.vperm.Kinds as moves-vperm-kinds
use Rattle.moves.proofs.vperm.Reads as moves-vperm
use Rattle.moves.proofs.vsl.Kinds as moves-vsl-kinds
use Rattle.moves.proofs.vsl.Reads as moves-vsl
use Rattle.moves.proofs.vsr.Kinds as moves-vsr-kinds
use Rattle.moves.proofs.vsr.Reads as moves-vsr
use Rattle.packing.proofs.vpkshss.Kinds as packing-vpkshss-kinds
use Rattle.packing.proofs.vpkshss.Reads as packing-vpkshss
use Rattle.packing.proofs.vpkshus.Kinds as packing-vpkshus-kinds
use Rattle.packing.proofs.vpkshus.Reads as packing-vpkshus
use Rattle.packing.proofs.vpkswss.Kinds as packing-vpkswss-kinds
use Rattle.packing.proofs.vpkswss.Reads as packing-vpkswss
use Rattle.packing.proofs.vpkswus.Kinds as packing-vpkswus-kinds
use Rattle.packing.proofs.vpkswus.Reads as packing-vpkswus
use Rattle.packing.proofs.vpkuhum.Kinds as packing-vpkuhum-kinds
use Rattle.packing.proofs.vpkuhum.Reads as packing-vpkuhum
use Rattle.packing.proofs.vpkuhus.Kinds as packing-vpkuhus-kinds
use Rattle.packing.proofs.vpkuhus.Reads as packing-vpkuhus
use Rattle.packing.proofs.vpkuwum.Kinds as packing-vpkuwum-kinds
use Rattle.packing.proofs.vpkuwum.Reads as packing-vpkuwum
use Rattle.packing.proofs.vpkuwus.Kinds as packing-vpkuwus-kinds
use Rattle.packing.proofs.vpkuwus.Reads as packing-vpkuwus
use Rattle.packing.proofs.vsum2sws.Kinds as packing-vsum2sws-kinds
use Rattle.packing.proofs.vsum2sws.Reads as packing-vsum2sws
use Rattle.packing.proofs.vsumsws.Kinds as packing-vsumsws-kinds
use Rattle.packing.proofs.vsumsws.Reads as packing-vsumsws
use Rattle.packing.proofs.vupkhsb.Kinds as packing-vupkhsb-kinds
use Rattle.packing.proofs.vupkhsb.Reads as packing-vupkhsb
use Rattle.packing.proofs.vupkhsh.Kinds as packing-vupkhsh-kinds
use Rattle.packing.proofs.vupkhsh.Reads as packing-vupkhsh
use Rattle.packing.proofs.vupklsb.Kinds as packing-vupklsb-kinds
use Rattle.packing.proofs.vupklsb.Reads as packing-vupklsb
use Rattle.packing.proofs.vupklsh.Kinds as packing-vupklsh-kinds
use Rattle.packing.proofs.vupklsh.Reads as packing-vupklsh
use Rattle.laws.specs.Single.{OneResult}

pub one_vector-vaddubm : OneResult 0 vector-vaddubm-kinds.ps vector-vaddubm-kinds.r vector-vaddubm.Post
one_vector-vaddubm κs a x y s t p q = p ∙ sym q

pub one_vector-vadduhm : OneResult 0 vector-vadduhm-kinds.ps vector-vadduhm-kinds.r vector-vadduhm.Post
one_vector-vadduhm κs a x y s t p q = p ∙ sym q

pub one_vector-vadduwm : OneResult 0 vector-vadduwm-kinds.ps vector-vadduwm-kinds.r vector-vadduwm.Post
one_vector-vadduwm κs a x y s t p q = p ∙ sym q

pub one_vector-vaddcuw : OneResult 0 vector-vaddcuw-kinds.ps vector-vaddcuw-kinds.r vector-vaddcuw.Post
one_vector-vaddcuw κs a x y s t p q = p ∙ sym q

pub one_vector-vaddubs : OneResult 0 vector-vaddubs-kinds.ps vector-vaddubs-kinds.r vector-vaddubs.Post
one_vector-vaddubs κs a x y s t p q = p ∙ sym q

pub one_vector-vadduhs : OneResult 0 vector-vadduhs-kinds.ps vector-vadduhs-kinds.r vector-vadduhs.Post
one_vector-vadduhs κs a x y s t p q = p ∙ sym q

pub one_vector-vadduws : OneResult 0 vector-vadduws-kinds.ps vector-vadduws-kinds.r vector-vadduws.Post
one_vector-vadduws κs a x y s t p q = p ∙ sym q

pub one_vector-vaddsbs : OneResult 0 vector-vaddsbs-kinds.ps vector-vaddsbs-kinds.r vector-vaddsbs.Post
one_vector-vaddsbs κs a x y s t p q = p ∙ sym q

pub one_vector-vaddshs : OneResult 0 vector-vaddshs-kinds.ps vector-vaddshs-kinds.r vector-vaddshs.Post
one_vector-vaddshs κs a x y s t p q = p ∙ sym q

pub one_vector-vaddsws : OneResult 0 vector-vaddsws-kinds.ps vector-vaddsws-kinds.r vector-vaddsws.Post
one_vector-vaddsws κs a x y s t p q = p ∙ sym q

pub one_vector-vsububm : OneResult 0 vector-vsububm-kinds.ps vector-vsububm-kinds.r vector-vsububm.Post
one_vector-vsububm κs a x y s t p q = p ∙ sym q

pub one_vector-vsubuhm : OneResult 0 vector-vsubuhm-kinds.ps vector-vsubuhm-kinds.r vector-vsubuhm.Post
one_vector-vsubuhm κs a x y s t p q = p ∙ sym q

pub one_vector-vsubuwm : OneResult 0 vector-vsubuwm-kinds.ps vector-vsubuwm-kinds.r vector-vsubuwm.Post
one_vector-vsubuwm κs a x y s t p q = p ∙ sym q

pub one_vector-vsubcuw : OneResult 0 vector-vsubcuw-kinds.ps vector-vsubcuw-kinds.r vector-vsubcuw.Post
one_vector-vsubcuw κs a x y s t p q = p ∙ sym q

pub one_vector-vsububs : OneResult 0 vector-vsububs-kinds.ps vector-vsububs-kinds.r vector-vsububs.Post
one_vector-vsububs κs a x y s t p q = p ∙ sym q

pub one_vector-vsubuhs : OneResult 0 vector-vsubuhs-kinds.ps vector-vsubuhs-kinds.r vector-vsubuhs.Post
one_vector-vsubuhs κs a x y s t p q = p ∙ sym q

pub one_vector-vsubuws : OneResult 0 vector-vsubuws-kinds.ps vector-vsubuws-kinds.r vector-vsubuws.Post
one_vector-vsubuws κs a x y s t p q = p ∙ sym q

pub one_vector-vsubsbs : OneResult 0 vector-vsubsbs-kinds.ps vector-vsubsbs-kinds.r vector-vsubsbs.Post
one_vector-vsubsbs κs a x y s t p q = p ∙ sym q

pub one_vector-vsubshs : OneResult 0 vector-vsubshs-kinds.ps vector-vsubshs-kinds.r vector-vsubshs.Post
one_vector-vsubshs κs a x y s t p q = p ∙ sym q

pub one_vector-vsubsws : OneResult 0 vector-vsubsws-kinds.ps vector-vsubsws-kinds.r vector-vsubsws.Post
one_vector-vsubsws κs a x y s t p q = p ∙ sym q

pub one_vector-vmaxub : OneResult 0 vector-vmaxub-kinds.ps vector-vmaxub-kinds.r vector-vmaxub.Post
one_vector-vmaxub κs a x y s t p q = p ∙ sym q

pub one_vector-vmaxuh : OneResult 0 vector-vmaxuh-kinds.ps vector-vmaxuh-kinds.r vector-vmaxuh.Post
one_vector-vmaxuh κs a x y s t p q = p ∙ sym q

pub one_vector-vmaxuw : OneResult 0 vector-vmaxuw-kinds.ps vector-vmaxuw-kinds.r vector-vmaxuw.Post
one_vector-vmaxuw κs a x y s t p q = p ∙ sym q

pub one_vector-vmaxsb : OneResult 0 vector-vmaxsb-kinds.ps vector-vmaxsb-kinds.r vector-vmaxsb.Post
one_vector-vmaxsb κs a x y s t p q = p ∙ sym q

pub one_vector-vmaxsh : OneResult 0 vector-vmaxsh-kinds.ps vector-vmaxsh-kinds.r vector-vmaxsh.Post
one_vector-vmaxsh κs a x y s t p q = p ∙ sym q

pub one_vector-vmaxsw : OneResult 0 vector-vmaxsw-kinds.ps vector-vmaxsw-kinds.r vector-vmaxsw.Post
one_vector-vmaxsw κs a x y s t p q = p ∙ sym q

pub one_vector-vminub : OneResult 0 vector-vminub-kinds.ps vector-vminub-kinds.r vector-vminub.Post
one_vector-vminub κs a x y s t p q = p ∙ sym q

pub one_vector-vminuh : OneResult 0 vector-vminuh-kinds.ps vector-vminuh-kinds.r vector-vminuh.Post
one_vector-vminuh κs a x y s t p q = p ∙ sym q

pub one_vector-vminuw : OneResult 0 vector-vminuw-kinds.ps vector-vminuw-kinds.r vector-vminuw.Post
one_vector-vminuw κs a x y s t p q = p ∙ sym q

pub one_vector-vminsb : OneResult 0 vector-vminsb-kinds.ps vector-vminsb-kinds.r vector-vminsb.Post
one_vector-vminsb κs a x y s t p q = p ∙ sym q

pub one_vector-vminsh : OneResult 0 vector-vminsh-kinds.ps vector-vminsh-kinds.r vector-vminsh.Post
one_vector-vminsh κs a x y s t p q = p ∙ sym q

pub one_vector-vminsw : OneResult 0 vector-vminsw-kinds.ps vector-vminsw-kinds.r vector-vminsw.Post
one_vector-vminsw κs a x y s t p q = p ∙ sym q

pub one_vector-vavgub : OneResult 0 vector-vavgub-kinds.ps vector-vavgub-kinds.r vector-vavgub.Post
one_vector-vavgub κs a x y s t p q = p ∙ sym q

pub one_vector-vavguh : OneResult 0 vector-vavguh-kinds.ps vector-vavguh-kinds.r vector-vavguh.Post
one_vector-vavguh κs a x y s t p q = p ∙ sym q

pub one_vector-vavguw : OneResult 0 vector-vavguw-kinds.ps vector-vavguw-kinds.r vector-vavguw.Post
one_vector-vavguw κs a x y s t p q = p ∙ sym q

pub one_vector-vavgsb : OneResult 0 vector-vavgsb-kinds.ps vector-vavgsb-kinds.r vector-vavgsb.Post
one_vector-vavgsb κs a x y s t p q = p ∙ sym q

pub one_vector-vavgsh : OneResult 0 vector-vavgsh-kinds.ps vector-vavgsh-kinds.r vector-vavgsh.Post
one_vector-vavgsh κs a x y s t p q = p ∙ sym q

pub one_vector-vavgsw : OneResult 0 vector-vavgsw-kinds.ps vector-vavgsw-kinds.r vector-vavgsw.Post
one_vector-vavgsw κs a x y s t p q = p ∙ sym q

pub one_vector-vrlb : OneResult 0 vector-vrlb-kinds.ps vector-vrlb-kinds.r vector-vrlb.Post
one_vector-vrlb κs a x y s t p q = p ∙ sym q

pub one_vector-vrlh : OneResult 0 vector-vrlh-kinds.ps vector-vrlh-kinds.r vector-vrlh.Post
one_vector-vrlh κs a x y s t p q = p ∙ sym q

pub one_vector-vrlw : OneResult 0 vector-vrlw-kinds.ps vector-vrlw-kinds.r vector-vrlw.Post
one_vector-vrlw κs a x y s t p q = p ∙ sym q

pub one_vector-vslb : OneResult 0 vector-vslb-kinds.ps vector-vslb-kinds.r vector-vslb.Post
one_vector-vslb κs a x y s t p q = p ∙ sym q

pub one_vector-vslh : OneResult 0 vector-vslh-kinds.ps vector-vslh-kinds.r vector-vslh.Post
one_vector-vslh κs a x y s t p q = p ∙ sym q

pub one_vector-vslw : OneResult 0 vector-vslw-kinds.ps vector-vslw-kinds.r vector-vslw.Post
one_vector-vslw κs a x y s t p q = p ∙ sym q

pub one_vector-vsrb : OneResult 0 vector-vsrb-kinds.ps vector-vsrb-kinds.r vector-vsrb.Post
one_vector-vsrb κs a x y s t p q = p ∙ sym q

pub one_vector-vsrh : OneResult 0 vector-vsrh-kinds.ps vector-vsrh-kinds.r vector-vsrh.Post
one_vector-vsrh κs a x y s t p q = p ∙ sym q

pub one_vector-vsrw : OneResult 0 vector-vsrw-kinds.ps vector-vsrw-kinds.r vector-vsrw.Post
one_vector-vsrw κs a x y s t p q = p ∙ sym q

pub one_vector-vsrab : OneResult 0 vector-vsrab-kinds.ps vector-vsrab-kinds.r vector-vsrab.Post
one_vector-vsrab κs a x y s t p q = p ∙ sym q

pub one_vector-vsrah : OneResult 0 vector-vsrah-kinds.ps vector-vsrah-kinds.r vector-vsrah.Post
one_vector-vsrah κs a x y s t p q = p ∙ sym q

pub one_vector-vsraw : OneResult 0 vector-vsraw-kinds.ps vector-vsraw-kinds.r vector-vsraw.Post
one_vector-vsraw κs a x y s t p q = p ∙ sym q

pub one_vector-vand : OneResult 0 vector-vand-kinds.ps vector-vand-kinds.r vector-vand.Post
one_vector-vand κs a x y s t p q = p ∙ sym q

pub one_vector-vandc : OneResult 0 vector-vandc-kinds.ps vector-vandc-kinds.r vector-vandc.Post
one_vector-vandc κs a x y s t p q = p ∙ sym q

pub one_vector-vor : OneResult 0 vector-vor-kinds.ps vector-vor-kinds.r vector-vor.Post
one_vector-vor κs a x y s t p q = p ∙ sym q

pub one_vector-vxor : OneResult 0 vector-vxor-kinds.ps vector-vxor-kinds.r vector-vxor.Post
one_vector-vxor κs a x y s t p q = p ∙ sym q

pub one_vector-vnor : OneResult 0 vector-vnor-kinds.ps vector-vnor-kinds.r vector-vnor.Post
one_vector-vnor κs a x y s t p q = p ∙ sym q

pub one_vector-vmuloub : OneResult 0 vector-vmuloub-kinds.ps vector-vmuloub-kinds.r vector-vmuloub.Post
one_vector-vmuloub κs a x y s t p q = p ∙ sym q

pub one_vector-vmulouh : OneResult 0 vector-vmulouh-kinds.ps vector-vmulouh-kinds.r vector-vmulouh.Post
one_vector-vmulouh κs a x y s t p q = p ∙ sym q

pub one_vector-vmulosb : OneResult 0 vector-vmulosb-kinds.ps vector-vmulosb-kinds.r vector-vmulosb.Post
one_vector-vmulosb κs a x y s t p q = p ∙ sym q

pub one_vector-vmulosh : OneResult 0 vector-vmulosh-kinds.ps vector-vmulosh-kinds.r vector-vmulosh.Post
one_vector-vmulosh κs a x y s t p q = p ∙ sym q

pub one_vector-vmuleub : OneResult 0 vector-vmuleub-kinds.ps vector-vmuleub-kinds.r vector-vmuleub.Post
one_vector-vmuleub κs a x y s t p q = p ∙ sym q

pub one_vector-vmuleuh : OneResult 0 vector-vmuleuh-kinds.ps vector-vmuleuh-kinds.r vector-vmuleuh.Post
one_vector-vmuleuh κs a x y s t p q = p ∙ sym q

pub one_vector-vmulesb : OneResult 0 vector-vmulesb-kinds.ps vector-vmulesb-kinds.r vector-vmulesb.Post
one_vector-vmulesb κs a x y s t p q = p ∙ sym q

pub one_vector-vmulesh : OneResult 0 vector-vmulesh-kinds.ps vector-vmulesh-kinds.r vector-vmulesh.Post
one_vector-vmulesh κs a x y s t p q = p ∙ sym q

pub one_vector-vsum4ubs : OneResult 0 vector-vsum4ubs-kinds.ps vector-vsum4ubs-kinds.r vector-vsum4ubs.Post
one_vector-vsum4ubs κs a x y s t p q = p ∙ sym q

pub one_vector-vsum4sbs : OneResult 0 vector-vsum4sbs-kinds.ps vector-vsum4sbs-kinds.r vector-vsum4sbs.Post
one_vector-vsum4sbs κs a x y s t p q = p ∙ sym q

pub one_vector-vsum4shs : OneResult 0 vector-vsum4shs-kinds.ps vector-vsum4shs-kinds.r vector-vsum4shs.Post
one_vector-vsum4shs κs a x y s t p q = p ∙ sym q

pub one_vector-vspltisb : OneResult 0 vector-vspltisb-kinds.ps vector-vspltisb-kinds.r vector-vspltisb.Post
one_vector-vspltisb κs a x y s t p q = p ∙ sym q

pub one_vector-vspltish : OneResult 0 vector-vspltish-kinds.ps vector-vspltish-kinds.r vector-vspltish.Post
one_vector-vspltish κs a x y s t p q = p ∙ sym q

pub one_vector-vspltisw : OneResult 0 vector-vspltisw-kinds.ps vector-vspltisw-kinds.r vector-vspltisw.Post
one_vector-vspltisw κs a x y s t p q = p ∙ sym q

pub one_vector-vcmpequb : OneResult 0 vector-vcmpequb-kinds.ps vector-vcmpequb-kinds.r vector-vcmpequb.Post
one_vector-vcmpequb κs a x y s t p q = p ∙ sym q

pub one_vector-vcmpequh : OneResult 0 vector-vcmpequh-kinds.ps vector-vcmpequh-kinds.r vector-vcmpequh.Post
one_vector-vcmpequh κs a x y s t p q = p ∙ sym q

pub one_vector-vcmpequw : OneResult 0 vector-vcmpequw-kinds.ps vector-vcmpequw-kinds.r vector-vcmpequw.Post
one_vector-vcmpequw κs a x y s t p q = p ∙ sym q

pub one_vector-vcmpgtub : OneResult 0 vector-vcmpgtub-kinds.ps vector-vcmpgtub-kinds.r vector-vcmpgtub.Post
one_vector-vcmpgtub κs a x y s t p q = p ∙ sym q

pub one_vector-vcmpgtuh : OneResult 0 vector-vcmpgtuh-kinds.ps vector-vcmpgtuh-kinds.r vector-vcmpgtuh.Post
one_vector-vcmpgtuh κs a x y s t p q = p ∙ sym q

pub one_vector-vcmpgtuw : OneResult 0 vector-vcmpgtuw-kinds.ps vector-vcmpgtuw-kinds.r vector-vcmpgtuw.Post
one_vector-vcmpgtuw κs a x y s t p q = p ∙ sym q

pub one_vector-vcmpgtsb : OneResult 0 vector-vcmpgtsb-kinds.ps vector-vcmpgtsb-kinds.r vector-vcmpgtsb.Post
one_vector-vcmpgtsb κs a x y s t p q = p ∙ sym q

pub one_vector-vcmpgtsh : OneResult 0 vector-vcmpgtsh-kinds.ps vector-vcmpgtsh-kinds.r vector-vcmpgtsh.Post
one_vector-vcmpgtsh κs a x y s t p q = p ∙ sym q

pub one_vector-vcmpgtsw : OneResult 0 vector-vcmpgtsw-kinds.ps vector-vcmpgtsw-kinds.r vector-vcmpgtsw.Post
one_vector-vcmpgtsw κs a x y s t p q = p ∙ sym q

pub one_vector-vmhaddshs : OneResult 0 vector-vmhaddshs-kinds.ps vector-vmhaddshs-kinds.r vector-vmhaddshs.Post
one_vector-vmhaddshs κs a x y s t p q = p ∙ sym q

pub one_vector-vmhraddshs : OneResult 0 vector-vmhraddshs-kinds.ps vector-vmhraddshs-kinds.r vector-vmhraddshs.Post
one_vector-vmhraddshs κs a x y s t p q = p ∙ sym q

pub one_vector-vmladduhm : OneResult 0 vector-vmladduhm-kinds.ps vector-vmladduhm-kinds.r vector-vmladduhm.Post
one_vector-vmladduhm κs a x y s t p q = p ∙ sym q

pub one_vector-vmsumubm : OneResult 0 vector-vmsumubm-kinds.ps vector-vmsumubm-kinds.r vector-vmsumubm.Post
one_vector-vmsumubm κs a x y s t p q = p ∙ sym q

pub one_vector-vmsummbm : OneResult 0 vector-vmsummbm-kinds.ps vector-vmsummbm-kinds.r vector-vmsummbm.Post
one_vector-vmsummbm κs a x y s t p q = p ∙ sym q

pub one_vector-vmsumuhm : OneResult 0 vector-vmsumuhm-kinds.ps vector-vmsumuhm-kinds.r vector-vmsumuhm.Post
one_vector-vmsumuhm κs a x y s t p q = p ∙ sym q

pub one_vector-vmsumuhs : OneResult 0 vector-vmsumuhs-kinds.ps vector-vmsumuhs-kinds.r vector-vmsumuhs.Post
one_vector-vmsumuhs κs a x y s t p q = p ∙ sym q

pub one_vector-vmsumshm : OneResult 0 vector-vmsumshm-kinds.ps vector-vmsumshm-kinds.r vector-vmsumshm.Post
one_vector-vmsumshm κs a x y s t p q = p ∙ sym q

pub one_vector-vmsumshs : OneResult 0 vector-vmsumshs-kinds.ps vector-vmsumshs-kinds.r vector-vmsumshs.Post
one_vector-vmsumshs κs a x y s t p q = p ∙ sym q

pub one_vector-vsel : OneResult 0 vector-vsel-kinds.ps vector-vsel-kinds.r vector-vsel.Post
one_vector-vsel κs a x y s t p q = p ∙ sym q

pub one_slides-vsldoi : OneResult 0 slides-vsldoi-kinds.ps slides-vsldoi-kinds.r slides-vsldoi.Post
one_slides-vsldoi κs a x y s t p q = p ∙ sym q

pub one_slides-vslo : OneResult 0 slides-vslo-kinds.ps slides-vslo-kinds.r slides-vslo.Post
one_slides-vslo κs a x y s t p q = p ∙ sym q

pub one_slides-vsro : OneResult 0 slides-vsro-kinds.ps slides-vsro-kinds.r slides-vsro.Post
one_slides-vsro κs a x y s t p q = p ∙ sym q

pub one_moves-vmrghb : OneResult 0 moves-vmrghb-kinds.ps moves-vmrghb-kinds.r moves-vmrghb.Post
one_moves-vmrghb κs a x y s t p q = p ∙ sym q

pub one_moves-vmrghh : OneResult 0 moves-vmrghh-kinds.ps moves-vmrghh-kinds.r moves-vmrghh.Post
one_moves-vmrghh κs a x y s t p q = p ∙ sym q

pub one_moves-vmrghw : OneResult 0 moves-vmrghw-kinds.ps moves-vmrghw-kinds.r moves-vmrghw.Post
one_moves-vmrghw κs a x y s t p q = p ∙ sym q

pub one_moves-vmrglb : OneResult 0 moves-vmrglb-kinds.ps moves-vmrglb-kinds.r moves-vmrglb.Post
one_moves-vmrglb κs a x y s t p q = p ∙ sym q

pub one_moves-vmrglh : OneResult 0 moves-vmrglh-kinds.ps moves-vmrglh-kinds.r moves-vmrglh.Post
one_moves-vmrglh κs a x y s t p q = p ∙ sym q

pub one_moves-vmrglw : OneResult 0 moves-vmrglw-kinds.ps moves-vmrglw-kinds.r moves-vmrglw.Post
one_moves-vmrglw κs a x y s t p q = p ∙ sym q

pub one_moves-vspltb : OneResult 0 moves-vspltb-kinds.ps moves-vspltb-kinds.r moves-vspltb.Post
one_moves-vspltb κs a x y s t p q = p ∙ sym q

pub one_moves-vsplth : OneResult 0 moves-vsplth-kinds.ps moves-vsplth-kinds.r moves-vsplth.Post
one_moves-vsplth κs a x y s t p q = p ∙ sym q

pub one_moves-vspltw : OneResult 0 moves-vspltw-kinds.ps moves-vspltw-kinds.r moves-vspltw.Post
one_moves-vspltw κs a x y s t p q = p ∙ sym q

pub one_moves-lvsl : OneResult 0 moves-lvsl-kinds.ps moves-lvsl-kinds.r moves-lvsl.Post
one_moves-lvsl κs a x y s t p q = p ∙ sym q

pub one_moves-lvsr : OneResult 0 moves-lvsr-kinds.ps moves-lvsr-kinds.r moves-lvsr.Post
one_moves-lvsr κs a x y s t p q = p ∙ sym q

pub one_moves-vperm : OneResult 0 moves-vperm-kinds.ps moves-vperm-kinds.r moves-vperm.Post
one_moves-vperm κs a x y s t p q = p ∙ sym q

pub one_moves-vsl : OneResult 0 moves-vsl-kinds.ps moves-vsl-kinds.r moves-vsl.Post
one_moves-vsl κs a x y s t p q = p ∙ sym q

pub one_moves-vsr : OneResult 0 moves-vsr-kinds.ps moves-vsr-kinds.r moves-vsr.Post
one_moves-vsr κs a x y s t p q = p ∙ sym q

pub one_packing-vpkshss : OneResult 0 packing-vpkshss-kinds.ps packing-vpkshss-kinds.r packing-vpkshss.Post
one_packing-vpkshss κs a x y s t p q = p ∙ sym q

pub one_packing-vpkshus : OneResult 0 packing-vpkshus-kinds.ps packing-vpkshus-kinds.r packing-vpkshus.Post
one_packing-vpkshus κs a x y s t p q = p ∙ sym q

pub one_packing-vpkswss : OneResult 0 packing-vpkswss-kinds.ps packing-vpkswss-kinds.r packing-vpkswss.Post
one_packing-vpkswss κs a x y s t p q = p ∙ sym q

pub one_packing-vpkswus : OneResult 0 packing-vpkswus-kinds.ps packing-vpkswus-kinds.r packing-vpkswus.Post
one_packing-vpkswus κs a x y s t p q = p ∙ sym q

pub one_packing-vpkuhum : OneResult 0 packing-vpkuhum-kinds.ps packing-vpkuhum-kinds.r packing-vpkuhum.Post
one_packing-vpkuhum κs a x y s t p q = p ∙ sym q

pub one_packing-vpkuhus : OneResult 0 packing-vpkuhus-kinds.ps packing-vpkuhus-kinds.r packing-vpkuhus.Post
one_packing-vpkuhus κs a x y s t p q = p ∙ sym q

pub one_packing-vpkuwum : OneResult 0 packing-vpkuwum-kinds.ps packing-vpkuwum-kinds.r packing-vpkuwum.Post
one_packing-vpkuwum κs a x y s t p q = p ∙ sym q

pub one_packing-vpkuwus : OneResult 0 packing-vpkuwus-kinds.ps packing-vpkuwus-kinds.r packing-vpkuwus.Post
one_packing-vpkuwus κs a x y s t p q = p ∙ sym q

pub one_packing-vsum2sws : OneResult 0 packing-vsum2sws-kinds.ps packing-vsum2sws-kinds.r packing-vsum2sws.Post
one_packing-vsum2sws κs a x y s t p q = p ∙ sym q

pub one_packing-vsumsws : OneResult 0 packing-vsumsws-kinds.ps packing-vsumsws-kinds.r packing-vsumsws.Post
one_packing-vsumsws κs a x y s t p q = p ∙ sym q

pub one_packing-vupkhsb : OneResult 0 packing-vupkhsb-kinds.ps packing-vupkhsb-kinds.r packing-vupkhsb.Post
one_packing-vupkhsb κs a x y s t p q = p ∙ sym q

pub one_packing-vupkhsh : OneResult 0 packing-vupkhsh-kinds.ps packing-vupkhsh-kinds.r packing-vupkhsh.Post
one_packing-vupkhsh κs a x y s t p q = p ∙ sym q

pub one_packing-vupklsb : OneResult 0 packing-vupklsb-kinds.ps packing-vupklsb-kinds.r packing-vupklsb.Post
one_packing-vupklsb κs a x y s t p q = p ∙ sym q

pub one_packing-vupklsh : OneResult 0 packing-vupklsh-kinds.ps packing-vupklsh-kinds.r packing-vupklsh.Post
one_packing-vupklsh κs a x y s t p q = p ∙ sym q
