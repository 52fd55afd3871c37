pub mod Contents
pub mod Vacancies
