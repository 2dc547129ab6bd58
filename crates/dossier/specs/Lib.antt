pub mod DossierHead
pub mod DossierBody
pub mod DossierLayout
pub mod DossierQuestions
pub mod code
